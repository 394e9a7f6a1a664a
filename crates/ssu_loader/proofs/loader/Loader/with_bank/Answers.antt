use Rattle.std.proofs.Common.{◌≡◌, ℕ, List, [], ◌∷◌, refl, sym, subst}
use Rattle.flash_bank.specs.Bank.{current_of, geometry_of, len_of}
use Rattle.ts_section.specs.Events.{Event, Heard, Listen}
use Rattle.ts_section.specs.Hearing.{Hears}
use Rattle.ssu_route.specs.Queries.{listened}
use Rattle.ssu_route.specs.Route.{Stands}
use Rattle.ssu_route.proofs.Following.{followed_none, heard_none}
use Rattle.ssu_loader.specs.Opening.{opening_of}
use Rattle.ssu_loader.specs.Verdicts.{receiver_of}
use Rattle.ssu_loader.proofs.loader.Loader.with_bank.Goals as goal

pub returns-clause-fresh : goal.returns-clause-fresh
returns-clause-fresh g c = λ contents.
    let bank = c.args.bank in
    let me = receiver_of c.args.me.now (len_of bank) (current_of bank).software (opening_of g.S.Stage.KEEPS (geometry_of bank) (current_of bank) contents) in
    let stands = c.in_ok-route.ensures.stands me refl (sym c.bank_len.ensures.value) in
    let pids : c.listens-pids.result.items ≡ listened me [] = c.listens-pids.ensures me [] stands in
    let hears = subst (λ (items : List ℕ). Hears c.listen.new.self (Listen items ∷ [])) pids (c.listen.ensures.stands [] c.in_ok-hearer.ensures) in
    record {
      hears = subst (λ (events : List Event). Hears c.listen.new.self events) (sym (followed_none me)) hears;
      stands = subst (λ (items : List Heard). Stands me items c.in_ok-route.route) (sym (heard_none me)) stands;
      made_for = c.in_ok-stage.ensures.most;
      none = refl;
    }
