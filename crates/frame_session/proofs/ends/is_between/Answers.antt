use Rattle.frame_session.proofs.Between.{told_by}
use Rattle.frame_session.proofs.ends.is_between.Goals as goal

pub returns : goal.returns
returns c =
    told_by c.frame_law.ensures.reads c.frame_law.ensures.one_reading c.args.reader c.feed-fed.new.self c.feed-fed.result c.requires.waits.0 (c.feed-fed.ensures.fed c.requires.waits.1) (c.is_lost.ensures.kept c.if-is_lost.false) c.requires.rest c.next-next.new.self c.next-next.result c.next-next.ensures.none c.is_idle.result c.is_idle.ensures.idle
    c.is_idle.ensures.other
