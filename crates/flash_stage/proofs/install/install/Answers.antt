use Rattle.std.proofs.Common.{◌≡◌, ◌+◌, ◌≤◌, List, ℕ, length, subst, arith}
use Rattle.flash_dev.specs.Changes.{Changes, IsBlank, IsProgrammed}
use Rattle.flash_dev.proofs.Moments.{joined, weaker}
use Rattle.flash_layout.specs.Layout.{Geometry, area_len, journal_len}
use Rattle.flash_bank.specs.Bank.{LeavesBegun, LeavesCommitted, LeavesFilled, current_of, geometry_of, len_of, spare_bank, spare_journal}
use Rattle.flash_bank.specs.declared.bank.Bank.{Bank}
use Rattle.flash_bank.specs.Record.{next_record}
use Rattle.flash_bank.specs.Sound.{Commits, boot_of}
use Rattle.flash_bank.proofs.BankLemmas.{blank_bank, blank_journal, still_blank_journal}
use Rattle.bank_kept.specs.Leaving.{HoldsNoMore}
use Rattle.ssu_compat.specs.declared.rule.SwId.{SwId}
use Rattle.flash_stage.specs.Leaving.{FinishLeaves, SameBank}
use Rattle.flash_stage.proofs.LeavingLaws.{Began, Filled, banks_joined, begin_left, blank_front, commit_installs, commit_left, fill_left, len_same, on_ok}
use Rattle.flash_stage.proofs.InBankLemmas.{same_journal}
use Rattle.flash_stage.proofs.KeptLaws.{begun_no_more, committed_no_more, filled_no_more, joined_no_more}
use Rattle.flash_stage.proofs.install.install.Goals as goal

-- the journal is erased still once the bank before it is filled
filled_journal : (b begun filled : Bank) (image mid full : List ℕ) → SameBank b begun → SameBank begun filled → length image ≤ len_of b → IsBlank mid (spare_bank b) (area_len (geometry_of b))
    → Changes (spare_bank begun + 0) (length image) (IsProgrammed image) mid full → (current_of filled).layout ≡ 2 → IsBlank full (spare_journal filled) (journal_len (geometry_of filled))
filled_journal b begun filled image mid full first second inside erased changes =
    same_journal begun filled full second (λ two. still_blank_journal begun two 0 (length image) (IsProgrammed image) mid full (omega (arith, inside, len_same b begun first)) changes
    (same_journal b begun mid first (λ was. blank_journal b was mid erased) two))

pub fill-requires-clause-blank : goal.fill-requires-clause-blank
fill-requires-clause-blank g c tells =
    let same : SameBank c.args.bank.now c.begin.new.self = record { geometry = c.begin.ensures.geometry; current = c.begin.ensures.current; block = c.begin.ensures.block } in
    blank_front c.args.bank.now c.begin.new.self (g.F.Flash.contents c.begin.new.flash) _ same c.requires.inside (blank_bank c.args.bank.now (g.F.Flash.contents c.begin.new.flash) (c.in_ok-begin.ensures.erased_area tells))

pub returns-in_err-begin-clause-held : goal.returns-in_err-begin-clause-held
returns-in_err-begin-clause-held g c tells = begin_left (geometry_of c.args.bank.now) _ c.args.image.now _ _ (c.begin.ensures.held tells)

pub returns-in_err-begin-clause-left : goal.returns-in_err-begin-clause-left
returns-in_err-begin-clause-left g c tells =
    let x = g.F.Flash.contents c.args.flash.now in
    weaker g.F.Flash.moment g.F.Flash.left_since c.args.flash.now c.begin.new.flash (LeavesBegun (geometry_of c.args.bank.now) x) _ (λ y. begin_left (geometry_of c.args.bank.now) _ c.args.image.now x y) (c.begin.ensures.left tells)

pub returns-in_err-fill-clause-held : goal.returns-in_err-fill-clause-held
returns-in_err-fill-clause-held g c tells =
    let x = g.F.Flash.contents c.args.flash.now in
    let mid = g.F.Flash.contents c.begin.new.flash in
    let past : Began c.args.bank.now c.begin.new.self c.args.image.now x mid = record {
      fits = c.requires.lent.fits tells;
      inside = c.requires.inside;
      same = record { geometry = c.begin.ensures.geometry; current = c.begin.ensures.current; block = c.begin.ensures.block };
      leaves = c.begin.ensures.held tells;
      begun_fits = c.in_ok-begin.ensures.lent.fits tells;
    } in
    fill_left c.args.bank.now c.begin.new.self c.args.image.now x mid past _ _ (c.fill.ensures.held tells)

pub returns-in_err-fill-clause-left : goal.returns-in_err-fill-clause-left
returns-in_err-fill-clause-left g c tells =
    let F = g.F.Flash in
    let b = c.args.bank.now in
    let image = c.args.image.now in
    let x = F.contents c.args.flash.now in
    let mid = F.contents c.begin.new.flash in
    let new = next_record (current_of b) (length image) c.args.software c.args.group in
    let P = FinishLeaves (geometry_of b) new image x in
    let past : Began b c.begin.new.self image x mid = record {
      fits = c.requires.lent.fits tells;
      inside = c.requires.inside;
      same = record { geometry = c.begin.ensures.geometry; current = c.begin.ensures.current; block = c.begin.ensures.block };
      leaves = c.begin.ensures.held tells;
      begun_fits = c.in_ok-begin.ensures.lent.fits tells;
    } in
    joined F.moment F.left_since c.args.flash.now c.begin.new.flash c.fill.new.flash P
    (weaker F.moment F.left_since c.args.flash.now c.begin.new.flash (LeavesBegun (geometry_of b) x) P (λ y. begin_left (geometry_of b) new image x y) (c.begin.ensures.left tells))
    (weaker F.moment F.left_since c.begin.new.flash c.fill.new.flash (LeavesFilled c.begin.new.self 0 image mid) P (λ y. fill_left b c.begin.new.self image x mid past new y) (c.fill.ensures.left tells))

pub returns-clause-done : goal.returns-clause-done
returns-clause-done g c tells =
    let F = g.F.Flash in
    let b = c.args.bank.now in
    let image = c.args.image.now in
    let x = F.contents c.args.flash.now in
    let mid = F.contents c.begin.new.flash in
    let full = F.contents c.fill.new.flash in
    let y = F.contents c.commit.new.flash in
    let is : Filled b c.begin.new.self c.fill.new.self image x mid full = record {
      past = record {
        fits = c.requires.lent.fits tells;
        inside = c.requires.inside;
        same = record { geometry = c.begin.ensures.geometry; current = c.begin.ensures.current; block = c.begin.ensures.block };
        leaves = c.begin.ensures.held tells;
        begun_fits = c.in_ok-begin.ensures.lent.fits tells;
      };
      same = banks_joined b c.begin.new.self c.fill.new.self (record { geometry = c.begin.ensures.geometry; current = c.begin.ensures.current; block = c.begin.ensures.block })
          (record { geometry = c.fill.ensures.geometry; current = c.fill.ensures.current; block = c.fill.ensures.block });
      leaves = c.fill.ensures.held tells;
      done = c.in_ok-fill.ensures.filled tells;
      fits = c.in_ok-fill.ensures.lent.fits tells;
      journal = filled_journal b c.begin.new.self c.fill.new.self image mid full (record { geometry = c.begin.ensures.geometry; current = c.begin.ensures.current; block = c.begin.ensures.block })
          (record { geometry = c.fill.ensures.geometry; current = c.fill.ensures.current; block = c.fill.ensures.block }) c.requires.inside (c.in_ok-begin.ensures.erased_area tells) (c.in_ok-fill.ensures.filled tells);
    } in
    on_ok (Commits (geometry_of c.fill.new.self) (boot_of (geometry_of c.fill.new.self) full (next_record (current_of c.fill.new.self) (length image) c.args.software c.args.group)) full y) _ c.commit.result
    (λ commits. commit_installs b c.begin.new.self c.fill.new.self image x mid full c.args.software c.args.group is y (c.commit.ensures.held tells) commits) (c.commit.ensures.committed tells)

pub returns-clause-held : goal.returns-clause-held
returns-clause-held g c tells =
    let F = g.F.Flash in
    let b = c.args.bank.now in
    let image = c.args.image.now in
    let x = F.contents c.args.flash.now in
    let mid = F.contents c.begin.new.flash in
    let full = F.contents c.fill.new.flash in
    let is : Filled b c.begin.new.self c.fill.new.self image x mid full = record {
      past = record {
        fits = c.requires.lent.fits tells;
        inside = c.requires.inside;
        same = record { geometry = c.begin.ensures.geometry; current = c.begin.ensures.current; block = c.begin.ensures.block };
        leaves = c.begin.ensures.held tells;
        begun_fits = c.in_ok-begin.ensures.lent.fits tells;
      };
      same = banks_joined b c.begin.new.self c.fill.new.self (record { geometry = c.begin.ensures.geometry; current = c.begin.ensures.current; block = c.begin.ensures.block })
          (record { geometry = c.fill.ensures.geometry; current = c.fill.ensures.current; block = c.fill.ensures.block });
      leaves = c.fill.ensures.held tells;
      done = c.in_ok-fill.ensures.filled tells;
      fits = c.in_ok-fill.ensures.lent.fits tells;
      journal = filled_journal b c.begin.new.self c.fill.new.self image mid full (record { geometry = c.begin.ensures.geometry; current = c.begin.ensures.current; block = c.begin.ensures.block })
          (record { geometry = c.fill.ensures.geometry; current = c.fill.ensures.current; block = c.fill.ensures.block }) c.requires.inside (c.in_ok-begin.ensures.erased_area tells) (c.in_ok-fill.ensures.filled tells);
    } in
    commit_left b c.begin.new.self c.fill.new.self image x mid full c.args.software c.args.group is _ (c.commit.ensures.held tells)

pub returns-clause-left : goal.returns-clause-left
returns-clause-left g c tells =
    let F = g.F.Flash in
    let b = c.args.bank.now in
    let image = c.args.image.now in
    let x = F.contents c.args.flash.now in
    let mid = F.contents c.begin.new.flash in
    let full = F.contents c.fill.new.flash in
    let new = next_record (current_of b) (length image) c.args.software c.args.group in
    let P = FinishLeaves (geometry_of b) new image x in
    let past : Began b c.begin.new.self image x mid = record {
      fits = c.requires.lent.fits tells;
      inside = c.requires.inside;
      same = record { geometry = c.begin.ensures.geometry; current = c.begin.ensures.current; block = c.begin.ensures.block };
      leaves = c.begin.ensures.held tells;
      begun_fits = c.in_ok-begin.ensures.lent.fits tells;
    } in
    let is : Filled b c.begin.new.self c.fill.new.self image x mid full = record {
      past = past;
      same = banks_joined b c.begin.new.self c.fill.new.self past.same (record { geometry = c.fill.ensures.geometry; current = c.fill.ensures.current; block = c.fill.ensures.block });
      leaves = c.fill.ensures.held tells;
      done = c.in_ok-fill.ensures.filled tells;
      fits = c.in_ok-fill.ensures.lent.fits tells;
      journal = filled_journal b c.begin.new.self c.fill.new.self image mid full (record { geometry = c.begin.ensures.geometry; current = c.begin.ensures.current; block = c.begin.ensures.block })
          (record { geometry = c.fill.ensures.geometry; current = c.fill.ensures.current; block = c.fill.ensures.block }) c.requires.inside (c.in_ok-begin.ensures.erased_area tells) (c.in_ok-fill.ensures.filled tells);
    } in
    joined F.moment F.left_since c.args.flash.now c.fill.new.flash c.commit.new.flash P
    (joined F.moment F.left_since c.args.flash.now c.begin.new.flash c.fill.new.flash P
    (weaker F.moment F.left_since c.args.flash.now c.begin.new.flash (LeavesBegun (geometry_of b) x) P (λ y. begin_left (geometry_of b) new image x y) (c.begin.ensures.left tells))
    (weaker F.moment F.left_since c.begin.new.flash c.fill.new.flash (LeavesFilled c.begin.new.self 0 image mid) P (λ y. fill_left b c.begin.new.self image x mid past new y) (c.fill.ensures.left tells)))
    (weaker F.moment F.left_since c.fill.new.flash c.commit.new.flash (LeavesCommitted c.fill.new.self (next_record (current_of c.fill.new.self) (length image) c.args.software c.args.group) full) P
    (λ y. commit_left b c.begin.new.self c.fill.new.self image x mid full c.args.software c.args.group is y) (c.commit.ensures.left tells))

-- ---- what is held

-- within `fill`
fill_no_more : (b begun : Bank) (image x mid y : List ℕ) → Began b begun image x mid → IsBlank mid (spare_bank b) (area_len (geometry_of b)) → LeavesFilled begun 0 image mid y
    → HoldsNoMore (geometry_of b) x y
fill_no_more b begun image x mid y past erased leaves =
    subst (λ (g : Geometry). HoldsNoMore g x y) past.same.geometry (filled_no_more begun 0 image x mid y past.begun_fits (omega (arith, past.inside, len_same b begun past.same))
    (same_journal b begun mid past.same (λ was. blank_journal b was mid erased)) leaves)

-- within `commit`
commit_no_more : (b begun filled : Bank) (image x mid full y : List ℕ) (software : SwId) (group : ℕ) → Filled b begun filled image x mid full → IsBlank mid (spare_bank b) (area_len (geometry_of b))
    → LeavesCommitted filled (next_record (current_of filled) (length image) software group) full y → HoldsNoMore (geometry_of b) x y
commit_no_more b begun filled image x mid full y software group is erased leaves =
    joined_no_more (geometry_of b) x full y (fill_no_more b begun image x mid full is.past erased is.leaves)
    (subst (λ (g : Geometry). HoldsNoMore g full y) is.same.geometry (committed_no_more filled (length image) software group full y is.fits leaves))

pub returns-in_err-begin-clause-no_more : goal.returns-in_err-begin-clause-no_more
returns-in_err-begin-clause-no_more g c tells = begun_no_more c.args.bank.now _ _ (c.requires.lent.fits tells) (c.begin.ensures.held tells)

pub returns-in_err-begin-clause-no_more_left : goal.returns-in_err-begin-clause-no_more_left
returns-in_err-begin-clause-no_more_left g c tells =
    let x = g.F.Flash.contents c.args.flash.now in
    weaker g.F.Flash.moment g.F.Flash.left_since c.args.flash.now c.begin.new.flash (LeavesBegun (geometry_of c.args.bank.now) x) _
    (λ y. begun_no_more c.args.bank.now x y (c.requires.lent.fits tells)) (c.begin.ensures.left tells)

pub returns-in_err-fill-clause-no_more : goal.returns-in_err-fill-clause-no_more
returns-in_err-fill-clause-no_more g c tells =
    let x = g.F.Flash.contents c.args.flash.now in
    let mid = g.F.Flash.contents c.begin.new.flash in
    let past : Began c.args.bank.now c.begin.new.self c.args.image.now x mid = record {
      fits = c.requires.lent.fits tells;
      inside = c.requires.inside;
      same = record { geometry = c.begin.ensures.geometry; current = c.begin.ensures.current; block = c.begin.ensures.block };
      leaves = c.begin.ensures.held tells;
      begun_fits = c.in_ok-begin.ensures.lent.fits tells;
    } in
    fill_no_more c.args.bank.now c.begin.new.self c.args.image.now x mid _ past (c.in_ok-begin.ensures.erased_area tells) (c.fill.ensures.held tells)

pub returns-in_err-fill-clause-no_more_left : goal.returns-in_err-fill-clause-no_more_left
returns-in_err-fill-clause-no_more_left g c tells =
    let F = g.F.Flash in
    let b = c.args.bank.now in
    let image = c.args.image.now in
    let x = F.contents c.args.flash.now in
    let mid = F.contents c.begin.new.flash in
    let P = HoldsNoMore (geometry_of b) x in
    let past : Began b c.begin.new.self image x mid = record {
      fits = c.requires.lent.fits tells;
      inside = c.requires.inside;
      same = record { geometry = c.begin.ensures.geometry; current = c.begin.ensures.current; block = c.begin.ensures.block };
      leaves = c.begin.ensures.held tells;
      begun_fits = c.in_ok-begin.ensures.lent.fits tells;
    } in
    joined F.moment F.left_since c.args.flash.now c.begin.new.flash c.fill.new.flash P
    (weaker F.moment F.left_since c.args.flash.now c.begin.new.flash (LeavesBegun (geometry_of b) x) P (λ y. begun_no_more b x y (c.requires.lent.fits tells)) (c.begin.ensures.left tells))
    (weaker F.moment F.left_since c.begin.new.flash c.fill.new.flash (LeavesFilled c.begin.new.self 0 image mid) P
    (λ y. fill_no_more b c.begin.new.self image x mid y past (c.in_ok-begin.ensures.erased_area tells)) (c.fill.ensures.left tells))

pub returns-clause-no_more : goal.returns-clause-no_more
returns-clause-no_more g c tells =
    let F = g.F.Flash in
    let b = c.args.bank.now in
    let image = c.args.image.now in
    let x = F.contents c.args.flash.now in
    let mid = F.contents c.begin.new.flash in
    let full = F.contents c.fill.new.flash in
    let is : Filled b c.begin.new.self c.fill.new.self image x mid full = record {
      past = record {
        fits = c.requires.lent.fits tells;
        inside = c.requires.inside;
        same = record { geometry = c.begin.ensures.geometry; current = c.begin.ensures.current; block = c.begin.ensures.block };
        leaves = c.begin.ensures.held tells;
        begun_fits = c.in_ok-begin.ensures.lent.fits tells;
      };
      same = banks_joined b c.begin.new.self c.fill.new.self (record { geometry = c.begin.ensures.geometry; current = c.begin.ensures.current; block = c.begin.ensures.block })
          (record { geometry = c.fill.ensures.geometry; current = c.fill.ensures.current; block = c.fill.ensures.block });
      leaves = c.fill.ensures.held tells;
      done = c.in_ok-fill.ensures.filled tells;
      fits = c.in_ok-fill.ensures.lent.fits tells;
      journal = filled_journal b c.begin.new.self c.fill.new.self image mid full (record { geometry = c.begin.ensures.geometry; current = c.begin.ensures.current; block = c.begin.ensures.block })
          (record { geometry = c.fill.ensures.geometry; current = c.fill.ensures.current; block = c.fill.ensures.block }) c.requires.inside (c.in_ok-begin.ensures.erased_area tells) (c.in_ok-fill.ensures.filled tells);
    } in
    commit_no_more b c.begin.new.self c.fill.new.self image x mid full _ c.args.software c.args.group is (c.in_ok-begin.ensures.erased_area tells) (c.commit.ensures.held tells)

pub returns-clause-no_more_left : goal.returns-clause-no_more_left
returns-clause-no_more_left g c tells =
    let F = g.F.Flash in
    let b = c.args.bank.now in
    let image = c.args.image.now in
    let x = F.contents c.args.flash.now in
    let mid = F.contents c.begin.new.flash in
    let full = F.contents c.fill.new.flash in
    let P = HoldsNoMore (geometry_of b) x in
    let is : Filled b c.begin.new.self c.fill.new.self image x mid full = record {
      past = record {
        fits = c.requires.lent.fits tells;
        inside = c.requires.inside;
        same = record { geometry = c.begin.ensures.geometry; current = c.begin.ensures.current; block = c.begin.ensures.block };
        leaves = c.begin.ensures.held tells;
        begun_fits = c.in_ok-begin.ensures.lent.fits tells;
      };
      same = banks_joined b c.begin.new.self c.fill.new.self (record { geometry = c.begin.ensures.geometry; current = c.begin.ensures.current; block = c.begin.ensures.block })
          (record { geometry = c.fill.ensures.geometry; current = c.fill.ensures.current; block = c.fill.ensures.block });
      leaves = c.fill.ensures.held tells;
      done = c.in_ok-fill.ensures.filled tells;
      fits = c.in_ok-fill.ensures.lent.fits tells;
      journal = filled_journal b c.begin.new.self c.fill.new.self image mid full (record { geometry = c.begin.ensures.geometry; current = c.begin.ensures.current; block = c.begin.ensures.block })
          (record { geometry = c.fill.ensures.geometry; current = c.fill.ensures.current; block = c.fill.ensures.block }) c.requires.inside (c.in_ok-begin.ensures.erased_area tells) (c.in_ok-fill.ensures.filled tells);
    } in
    joined F.moment F.left_since c.args.flash.now c.fill.new.flash c.commit.new.flash P
    (joined F.moment F.left_since c.args.flash.now c.begin.new.flash c.fill.new.flash P
    (weaker F.moment F.left_since c.args.flash.now c.begin.new.flash (LeavesBegun (geometry_of b) x) P (λ y. begun_no_more b x y (c.requires.lent.fits tells)) (c.begin.ensures.left tells))
    (weaker F.moment F.left_since c.begin.new.flash c.fill.new.flash (LeavesFilled c.begin.new.self 0 image mid) P
    (λ y. fill_no_more b c.begin.new.self image x mid y is.past (c.in_ok-begin.ensures.erased_area tells)) (c.fill.ensures.left tells)))
    (weaker F.moment F.left_since c.fill.new.flash c.commit.new.flash (LeavesCommitted c.fill.new.self (next_record (current_of c.fill.new.self) (length image) c.args.software c.args.group) full) P
    (λ y. commit_no_more b c.begin.new.self c.fill.new.self image x mid full y c.args.software c.args.group is (c.in_ok-begin.ensures.erased_area tells)) (c.commit.ensures.left tells))
