use Rattle.part_tests.proofs.due_wheel_tests.ties_go_to_the_lesser_item.Given as goal

abbrev pub ghosts-take : goal.ghosts-take
ghosts-take g a = record { name = a.blank.name; parts = a.blank.parts }
