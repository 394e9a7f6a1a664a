use Rattle.flash_bank.proofs.scan.with_message.Goals as goal

pub returns-clause-found : goal.returns-clause-found
returns-clause-found g c tells =
    let pairs = c.in_ok-whole.ensures.found tells in
    let some = c.number_where.ensures.some in
    (λ there. pairs.0 (some.0 there), λ all. some.1 (pairs.1 all))
