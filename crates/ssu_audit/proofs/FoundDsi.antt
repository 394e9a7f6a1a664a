-- What is kept of the first DSI is a DSI.
use Rattle.std.proofs.Common.{◌≡◌, ℕ, List, Some, sym, ap, ◌∙◌}
use Rattle.dsmcc_msg.specs.Control.{DsiFields, dsi}
use Rattle.ssu_audit.specs.Calls.{Call}
use Rattle.ssu_audit.specs.Hearing.{first_dsi}
use Rattle.ssu_audit.specs.Said.{dsi_section}
use Rattle.ssu_audit.proofs.Firsts.{comes, of_dsi}

pub found_dsi : (calls : List Call) (number : ℕ) (section : List ℕ) → first_dsi calls ≡ Some (number, section) → (d : DsiFields) × (dsi.of section ≡ Some d)
found_dsi calls number section e =
    let from = comes dsi_section calls (number, section) e in
    let said = of_dsi from.section section from.said in
    (said.1.0, ap (λ (s : List ℕ). dsi.of s) (sym said.0) ∙ said.1.1)
