use Rattle.std.proofs.Common.{ap, ◌∙◌}
use Rattle.placement_node.specs.declared.written.Kept.TheVariants.{Done, NoMemory, NoRoom, Failed}
use Rattle.placement_node.specs.Node.{NodeState}
use Rattle.placement_node.specs.Records.{payloads_of}
use Rattle.placement_node.proofs.Steps.{written_alone, keeps_done, keeps_memory, keeps_room, keeps_fault}
use Rattle.placement_node.proofs.node.PlacementNode.keep.Goals as goal

pub write_record-requires-clause-works : goal.write_record-requires-clause-works
write_record-requires-clause-works g c = ap (λ (n : NodeState). n.journal.is_broken) c.self.view_is ∙ c.requires.works

pub invariant_of-self : goal.invariant_of-self
invariant_of-self g c = (c.requires.state, written_alone (payloads_of c.args.trial.recent) Done c.self.inside.journal c.write_record.new.journal c.self.invariant.1 c.in-Done.ensures)

pub invariant_of-self-in-NoMemory-1 : goal.invariant_of-self-in-NoMemory-1
invariant_of-self-in-NoMemory-1 g c = (c.self.invariant.0, written_alone (payloads_of c.args.trial.recent) NoMemory c.self.inside.journal c.write_record.new.journal c.self.invariant.1 c.in-NoMemory.ensures)

pub invariant_of-self-in-NoRoom-1 : goal.invariant_of-self-in-NoRoom-1
invariant_of-self-in-NoRoom-1 g c = (c.self.invariant.0, written_alone (payloads_of c.args.trial.recent) (NoRoom c.in-NoRoom.len) c.self.inside.journal c.write_record.new.journal c.self.invariant.1 c.in-NoRoom.ensures)

pub invariant_of-self-in-Failed-1 : goal.invariant_of-self-in-Failed-1
invariant_of-self-in-Failed-1 g c = (c.self.invariant.0, written_alone (payloads_of c.args.trial.recent) Failed c.self.inside.journal c.write_record.new.journal c.self.invariant.1 c.in-Failed.ensures)

pub returns-in-Done : goal.returns-in-Done
returns-in-Done g c = keeps_done c.args.trial c.args.self.now c.self.inside.placement.state c.self.inside.journal c.write_record.new.journal c.self.view_is c.in-Done.ensures

pub returns-in-NoMemory : goal.returns-in-NoMemory
returns-in-NoMemory g c = keeps_memory c.args.trial c.args.self.now c.self.inside.placement.state c.self.inside.journal c.write_record.new.journal c.self.view_is c.in-NoMemory.ensures

pub returns-in-NoRoom : goal.returns-in-NoRoom
returns-in-NoRoom g c = keeps_room c.args.trial c.args.self.now c.self.inside.placement.state c.self.inside.journal c.write_record.new.journal c.self.view_is c.in-NoRoom.len c.in-NoRoom.ensures

pub returns-in-Failed : goal.returns-in-Failed
returns-in-Failed g c = keeps_fault c.args.trial c.args.self.now c.self.inside.placement.state c.self.inside.journal c.write_record.new.journal c.self.view_is c.in-Failed.ensures
