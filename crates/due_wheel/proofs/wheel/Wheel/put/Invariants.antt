use Rattle.due_wheel.proofs.wheel.Wheel.put.Given as goal

abbrev pub ghosts-put_over : goal.ghosts-put_over
ghosts-put_over a = record { name = a.blank.name; parts = a.blank.parts }
