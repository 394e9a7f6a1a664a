use Rattle.std.proofs.Common.{◌≡◌, ℕ, false, List, Option, Some, None, refl, sym, ap, ◌∙◌}
use Rattle.si_desc.proofs.Exact.{update_ouis_exact}
use Rattle.si_desc.specs.Linkage.{OuiFields, lists, update_ouis}
use Rattle.route_tables.specs.Said.{lists_oui as lists_in}
use Rattle.route_tables.proofs.linkage.lists.Goals as goal

none_listed : (oui : ℕ) (rest : List ℕ) (read : Option (List OuiFields)) → update_ouis.of rest ≡ read
    → ((entries : List OuiFields) → update_ouis.Spells entries rest → None ≡ Some (lists oui entries)) → false ≡ lists_in oui read
none_listed oui rest None e only = refl
none_listed oui rest (Some entries) e only =
    let none = only entries (update_ouis_exact.takes rest entries e) in
    absurd cc

pub returns-in-None : goal.returns-in-None
returns-in-None c = none_listed c.args.oui c.args.rest.now (update_ouis.of c.args.rest.now) refl c.in-None.ensures.only

pub returns-in-Some : goal.returns-in-Some
returns-in-Some c =
    let found = c.in-Some.ensures.found in
    found.2 ∙ ap (lists_in c.args.oui) (sym (update_ouis_exact.again found.0 c.args.rest.now found.1))
