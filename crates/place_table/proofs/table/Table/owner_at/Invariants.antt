use Rattle.place_table.proofs.table.Table.owner_at.Given as goal

abbrev pub ghosts-fresh_owner : goal.ghosts-fresh_owner
ghosts-fresh_owner a = record { name = a.blank.name; parts = a.blank.parts }
