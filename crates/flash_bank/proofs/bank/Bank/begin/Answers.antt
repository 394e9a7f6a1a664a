use Rattle.std.proofs.Common.{refl, ◌∙◌, arith}
use Rattle.flash_dev.proofs.Moments.{weaker}
use Rattle.flash_bank.proofs.BankLemmas.{begun_still, leaves_begun}
use Rattle.flash_bank.proofs.bank.Bank.begin.Goals as goal

pub returns-in_err-erase_spare-clause-held : goal.returns-in_err-erase_spare-clause-held
returns-in_err-erase_spare-clause-held g c tells = leaves_begun c.args.self.now _ (c.requires.lent.fits tells) _ (c.erase_spare.ensures.held tells)

pub returns-in_err-erase_spare-clause-left : goal.returns-in_err-erase_spare-clause-left
returns-in_err-erase_spare-clause-left g c tells =
    weaker g.F.Flash.moment g.F.Flash.left_since c.args.flash.now c.erase_spare.new.flash _ _ (λ y. leaves_begun c.args.self.now _ (c.requires.lent.fits tells) y) (c.erase_spare.ensures.left tells)

pub returns-clause-held : goal.returns-clause-held
returns-clause-held g c tells = leaves_begun c.args.self.now _ (c.requires.lent.fits tells) _ (c.erase_spare.ensures.held tells)

pub returns-clause-left : goal.returns-clause-left
returns-clause-left g c tells =
    weaker g.F.Flash.moment g.F.Flash.left_since c.args.flash.now c.erase_spare.new.flash _ _ (λ y. leaves_begun c.args.self.now _ (c.requires.lent.fits tells) y) (c.erase_spare.ensures.left tells)

pub returns-clause-erased_area : goal.returns-clause-erased_area
returns-clause-erased_area g c tells = (c.in_ok-erase_spare.ensures.done tells).area

pub returns-clause-erased_record : goal.returns-clause-erased_record
returns-clause-erased_record g c tells = (c.in_ok-erase_spare.ensures.done tells).clears.blank

pub returns-clause-lent : goal.returns-clause-lent
returns-clause-lent g c =
    let b = c.args.self.now in
    let x = g.F.Flash.contents c.args.flash.now in
    let y = g.F.Flash.contents c.erase_spare.new.flash in
    record {
      usable = refl;
      blocks = c.erase_spare.ensures.blocks ∙ c.requires.lent.blocks;
      block_size = c.erase_spare.ensures.block_size ∙ c.requires.lent.block_size;
      fits = λ tells.
          let fits = c.requires.lent.fits tells in
          let clears = (c.in_ok-erase_spare.ensures.done tells).clears in
          let still = begun_still b x fits y clears in
          record {
            sound = still.sound;
            current = still.current;
            head = still.head;
            blank = λ is k lt. clears.blank k (omega (arith, b.limits.least_len));
          };
    }
