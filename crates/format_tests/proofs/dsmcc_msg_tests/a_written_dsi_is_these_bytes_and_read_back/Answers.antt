use Rattle.std.proofs.Common.{List, [], ◌∷◌, ℕ, subst, sym}
use Rattle.ssu_compat.specs.Compat.{EntryFields, compat}
use Rattle.ssu_compat.specs.Written.{entry_of}
use Rattle.format_tests.proofs.dsmcc_msg_tests.a_written_dsi_is_these_bytes_and_read_back.Goals as goal

pub group-requires : goal.group-requires
group-requires g c =
    let entries : List EntryFields = entry_of (record { kind = 1; oui = c.in_ok-oui.oui; model = 7; version = 2 }) ∷ [] in
    let spelled : compat.Spells entries c.in_ok-compat.compat.items = (c.in_ok-compat.ensures {u = tt}).read_back in
    (entries, subst (λ (u : List ℕ). compat.Spells entries u) (sym c.deref.ensures.value) spelled)
