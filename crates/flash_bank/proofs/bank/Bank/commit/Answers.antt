use Rattle.std.proofs.Common.{⊎_elim, ℕ, List, length, refl, sym, subst, ◌∙◌}
use Rattle.flash_dev.proofs.Moments.{started, goes_on}
use Rattle.flash_dev.specs.Changes.{Changes, IsProgrammed, IsTornProgram}
use Rattle.flash_bank.specs.Bank.{LeavesCommitted, geometry_of}
use Rattle.flash_bank.specs.Record.{next_record, written}
use Rattle.flash_bank.proofs.BankLemmas.{commit_adds, done_committed, leaves_committed, same_committed}
use Rattle.flash_bank.proofs.CommitLemmas.{adds_current, adds_new, commits}
use Rattle.flash_bank.proofs.bank.Bank.commit.Goals as goal

pub returns-clause-held : goal.returns-clause-held
returns-clause-held g c tells =
    let b = c.args.self.now in
    let x = g.F.Flash.contents c.args.flash.now in
    let y = g.F.Flash.contents c.program.new.self in
    let new = next_record b.current c.args.length c.args.software c.args.group in
    let done = subst (λ (p : ℕ). Changes p 64 (IsProgrammed (written new)) x y) c.record_place.ensures
    (subst (λ (bs : List ℕ). Changes c.record_place.result (length bs) (IsProgrammed bs) x y) c.encoded.ensures.bytes (c.in_ok-program.ensures.done tells)) in
    done_committed b x (c.requires.lent.fits tells) new c.encoded.ensures.in_range refl refl refl c.requires.fits c.requires.begun y done

pub returns-in_err-program-clause-held : goal.returns-in_err-program-clause-held
returns-in_err-program-clause-held g c tells =
    let b = c.args.self.now in
    let x = g.F.Flash.contents c.args.flash.now in
    let y = g.F.Flash.contents c.program.new.self in
    let new = next_record b.current c.args.length c.args.software c.args.group in
    let torn = subst (λ (p : ℕ). Changes p 64 (IsTornProgram (written new)) x y) c.record_place.ensures
    (subst (λ (bs : List ℕ). Changes c.record_place.result (length bs) (IsTornProgram bs) x y) c.encoded.ensures.bytes (c.in_err-program.ensures.torn tells)) in
    leaves_committed b x (c.requires.lent.fits tells) new c.encoded.ensures.in_range refl refl refl c.requires.fits c.requires.begun y torn

pub returns-clause-left : goal.returns-clause-left
returns-clause-left g c tells =
    let F = g.F.Flash in
    let b = c.args.self.now in
    let x = F.contents c.args.flash.now in
    let new = next_record b.current c.args.length c.args.software c.args.group in
    let fits = c.requires.lent.fits tells in
    let P = LeavesCommitted b new x in
    let start = started F.moment F.left_since c.args.flash.now P
    (λ y left. subst P (sym (g.met.F.Flash.only_now c.args.flash.now y left)) (same_committed b x fits new c.encoded.ensures.in_range refl refl refl c.requires.fits c.requires.begun)) in
    goes_on F.moment F.left_since c.args.flash.now c.args.flash.now c.program.new.self P _ start c.program.ensures.time
    (λ y. ⊎_elim
    (λ torn. leaves_committed b x fits new c.encoded.ensures.in_range refl refl refl c.requires.fits c.requires.begun y
    (subst (λ (p : ℕ). Changes p 64 (IsTornProgram (written new)) x y) c.record_place.ensures
    (subst (λ (bs : List ℕ). Changes c.record_place.result (length bs) (IsTornProgram bs) x y) c.encoded.ensures.bytes torn)))
    (λ is. subst P (sym is) (returns-clause-held g c tells)))

pub returns-in_err-program-clause-left : goal.returns-in_err-program-clause-left
returns-in_err-program-clause-left g c tells =
    let F = g.F.Flash in
    let b = c.args.self.now in
    let x = F.contents c.args.flash.now in
    let new = next_record b.current c.args.length c.args.software c.args.group in
    let fits = c.requires.lent.fits tells in
    let P = LeavesCommitted b new x in
    let start = started F.moment F.left_since c.args.flash.now P
    (λ y left. subst P (sym (g.met.F.Flash.only_now c.args.flash.now y left)) (same_committed b x fits new c.encoded.ensures.in_range refl refl refl c.requires.fits c.requires.begun)) in
    goes_on F.moment F.left_since c.args.flash.now c.args.flash.now c.program.new.self P _ start c.program.ensures.time
    (λ y. ⊎_elim
    (λ torn. leaves_committed b x fits new c.encoded.ensures.in_range refl refl refl c.requires.fits c.requires.begun y
    (subst (λ (p : ℕ). Changes p 64 (IsTornProgram (written new)) x y) c.record_place.ensures
    (subst (λ (bs : List ℕ). Changes c.record_place.result (length bs) (IsTornProgram bs) x y) c.encoded.ensures.bytes torn)))
    (λ is. subst P (sym is) (returns-in_err-program-clause-held g c tells)))

pub returns-clause-committed : goal.returns-clause-committed
returns-clause-committed g c tells =
    let b = c.args.self.now in
    let x = g.F.Flash.contents c.args.flash.now in
    let y = g.F.Flash.contents c.program.new.self in
    let new = next_record b.current c.args.length c.args.software c.args.group in
    let done = subst (λ (p : ℕ). Changes p 64 (IsProgrammed (written new)) x y) c.record_place.ensures
    (subst (λ (bs : List ℕ). Changes c.record_place.result (length bs) (IsProgrammed bs) x y) c.encoded.ensures.bytes (c.in_ok-program.ensures.done tells)) in
    commits (geometry_of b) b.block new x y (commit_adds b x (c.requires.lent.fits tells) new c.encoded.ensures.in_range refl refl refl c.requires.fits c.requires.begun y done)

pub returns-clause-lent : goal.returns-clause-lent
returns-clause-lent g c =
    let b = c.args.self.now in
    let x = g.F.Flash.contents c.args.flash.now in
    let y = g.F.Flash.contents c.program.new.self in
    let new = next_record b.current c.args.length c.args.software c.args.group in
    record {
      usable = refl;
      blocks = c.program.ensures.blocks ∙ c.requires.lent.blocks;
      block_size = c.program.ensures.block_size ∙ c.requires.lent.block_size;
      fits = λ tells.
          let done = subst (λ (p : ℕ). Changes p 64 (IsProgrammed (written new)) x y) c.record_place.ensures
          (subst (λ (bs : List ℕ). Changes c.record_place.result (length bs) (IsProgrammed bs) x y) c.encoded.ensures.bytes (c.in_ok-program.ensures.done tells)) in
          let adds = commit_adds b x (c.requires.lent.fits tells) new c.encoded.ensures.in_range refl refl refl c.requires.fits c.requires.begun y done in
          record {
            sound = (commits (geometry_of b) b.block new x y adds).sound;
            current = adds_current (geometry_of b) b.block new x y adds;
            head = adds_new (geometry_of b) b.block new x y adds;
            blank = λ no. absurd (cc no);
          };
    }
