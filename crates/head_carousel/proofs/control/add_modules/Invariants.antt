use Rattle.std.proofs.Common.{◌≡◌, take}
use Rattle.std.specs.Prelude.{map}
use Rattle.std.specs.List.{flat_map}
use Rattle.head_carousel.specs.Control.{module_fields, module_piece}
use Rattle.head_carousel.specs.GroupFiles.{numbered}
use Rattle.head_carousel.proofs.control.add_modules.Given as goal

abbrev pub invariant-loop-index : goal.invariant-loop-index
invariant-loop-index l = l.writer ≡ record l.fn.writer {
  modules = map (module_fields l.version) (numbered 1 (map (λ f. f.items) (take l.index l.files)));
  bytes = flat_map (module_piece l.version) (numbered 1 (map (λ f. f.items) (take l.index l.files)));
}
