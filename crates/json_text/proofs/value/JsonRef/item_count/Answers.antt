use Rattle.serde_json.specs.View.{view}
use Rattle.json_text.proofs.Found.{some_count}
use Rattle.json_text.proofs.value.JsonRef.item_count.Goals as goal

pub returns-in-Some : goal.returns-in-Some
returns-in-Some c = rw (← c.self.view_is) (cc (some_count (view c.self.inside.value.now) c.in-Some.items.now.items c.in-Some.ensures))
