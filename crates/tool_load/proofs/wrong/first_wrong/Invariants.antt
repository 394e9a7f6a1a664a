use Rattle.std.proofs.Common.{◌≡◌, drop}
use Rattle.std.specs.List.{find}
use Rattle.group_image.specs.Image.{image_of}
use Rattle.ssu_group.specs.Carried.{is_wrong}
use Rattle.tool_load.proofs.wrong.first_wrong.Given as goal

abbrev pub invariant-loop-part : goal.invariant-loop-part
invariant-loop-part l = find (is_wrong (image_of l.image)) (drop l.part-index l.modules) ≡ find (is_wrong (image_of l.image)) l.modules
