use Rattle.std.proofs.Common.{refl, ◌≡◌, ◌<◌, true, false, rules, sym, ◌∙◌, arith}
use Rattle.flash_layout.specs.Shape.{geometry}
use Rattle.flash_bank.specs.Migrate.{HasRoom}
use Rattle.flash_bank.proofs.MigrateLemmas.{exact_of, found_current, leaves_none, leaves_same}
use Rattle.flash_bank.proofs.migration.migrate_found.Goals as goal

pub returns-then-current-eq2-clause-already : goal.returns-then-current-eq2-clause-already
returns-then-current-eq2-clause-already g c tells = record {
  has = found_current (geometry c.args.shape) (g.F.Flash.contents c.args.flash.now) c.args.current (c.requires.found tells);
  two = c.if-current-eq2.true;
}

pub returns-then-current-eq2-clause-held : goal.returns-then-current-eq2-clause-held
returns-then-current-eq2-clause-held g c tells = leaves_same (geometry c.args.shape) (g.F.Flash.contents c.args.flash.now) (c.requires.found tells).sound

pub returns-then-current-eq2-clause-left : goal.returns-then-current-eq2-clause-left
returns-then-current-eq2-clause-left g c tells =
    let F = g.F.Flash in
    leaves_none F.contents F.moment F.left_since (geometry c.args.shape) c.args.flash.now (g.met.F.Flash.only_now c.args.flash.now) (c.requires.found tells).sound

pub returns-then-current-eq4294967295-clause-worn : goal.returns-then-current-eq4294967295-clause-worn
returns-then-current-eq4294967295-clause-worn g c = λ tells _. record {
  has = found_current (geometry c.args.shape) (g.F.Flash.contents c.args.flash.now) c.args.current (c.requires.found tells);
  one = omega (arith, c.requires.placed.least_layout, c.requires.placed.most_layout, c.if-current-eq2.false);
  greatest = c.if-current-eq4294967295.true;
}

pub returns-then-current-eq4294967295-clause-held : goal.returns-then-current-eq4294967295-clause-held
returns-then-current-eq4294967295-clause-held g c tells = leaves_same (geometry c.args.shape) (g.F.Flash.contents c.args.flash.now) (c.requires.found tells).sound

pub returns-then-current-eq4294967295-clause-left : goal.returns-then-current-eq4294967295-clause-left
returns-then-current-eq4294967295-clause-left g c tells =
    let F = g.F.Flash in
    leaves_none F.contents F.moment F.left_since (geometry c.args.shape) c.args.flash.now (g.met.F.Flash.only_now c.args.flash.now) (c.requires.found tells).sound

pub returns-then-not-fits-clause-no_fit : goal.returns-then-not-fits-clause-no_fit
returns-then-not-fits-clause-no_fit g c = λ tells _.
    let lesser : c.args.current.head.number < 4294967295 = search rules in
    record {
      has = found_current (geometry c.args.shape) (g.F.Flash.contents c.args.flash.now) c.args.current (c.requires.found tells);
      one = omega (arith, c.requires.placed.least_layout, c.requires.placed.most_layout, c.if-current-eq2.false);
      next_fits = lesser;
      lacks = λ room. let yes : c.has_room-fits.result ≡ true = c.has_room-fits.ensures.1 room in let no : true ≡ false = sym yes ∙ c.if-not-fits.true in cc no;
    }

pub returns-then-not-fits-clause-held : goal.returns-then-not-fits-clause-held
returns-then-not-fits-clause-held g c tells = leaves_same (geometry c.args.shape) (g.F.Flash.contents c.args.flash.now) (c.requires.found tells).sound

pub returns-then-not-fits-clause-left : goal.returns-then-not-fits-clause-left
returns-then-not-fits-clause-left g c tells =
    let F = g.F.Flash in
    leaves_none F.contents F.moment F.left_since (geometry c.args.shape) c.args.flash.now (g.met.F.Flash.only_now c.args.flash.now) (c.requires.found tells).sound

pub move_record-requires-clause-room : goal.move_record-requires-clause-room
move_record-requires-clause-room g c =
    let room : HasRoom (geometry c.args.shape) c.args.current.head = c.has_room-fits.ensures.0 c.if-not-fits.false in
    room.room

pub move_record-requires-clause-bank : goal.move_record-requires-clause-bank
move_record-requires-clause-bank g c = c.requires.placed.area

pub move_record-requires-clause-can : goal.move_record-requires-clause-can
move_record-requires-clause-can g c tells =
    let found = c.requires.found tells in
    let room : HasRoom (geometry c.args.shape) c.args.current.head = c.has_room-fits.ensures.0 c.if-not-fits.false in
    record {
      sound = found.sound;
      current = found.current;
      head = sym found.head;
      one = omega (arith, c.requires.placed.least_layout, c.requires.placed.most_layout, c.if-current-eq2.false);
      short = room.short;
    }

pub returns-in-Ok-clause-now : goal.returns-in-Ok-clause-now
returns-in-Ok-clause-now g c tells =
    let lesser : c.args.current.head.number < 4294967295 = search rules in
    record {
      former = c.args.current.head;
      can = record {
        has = found_current (geometry c.args.shape) (g.F.Flash.contents c.args.flash.now) c.args.current (c.requires.found tells);
        one = omega (arith, c.requires.placed.least_layout, c.requires.placed.most_layout, c.if-current-eq2.false);
        next_fits = lesser;
        has_room = c.has_room-fits.ensures.0 c.if-not-fits.false;
      };
      new_is = c.in-Ok.ensures.value;
      done = c.in-Ok.ensures.done tells;
    }

pub returns-in-Ok-clause-held : goal.returns-in-Ok-clause-held
returns-in-Ok-clause-held g c tells = c.move_record.ensures.held tells

pub returns-in-Ok-clause-left : goal.returns-in-Ok-clause-left
returns-in-Ok-clause-left g c tells = c.move_record.ensures.left tells

pub returns-in-Err-clause-held : goal.returns-in-Err-clause-held
returns-in-Err-clause-held g c tells = c.move_record.ensures.held tells

pub returns-in-Err-clause-left : goal.returns-in-Err-clause-left
returns-in-Err-clause-left g c tells = c.move_record.ensures.left tells

pub returns-then-current-eq2-clause-exact : goal.returns-then-current-eq2-clause-exact
returns-then-current-eq2-clause-exact g c tells =
    exact_of (geometry c.args.shape) (g.F.Flash.contents c.args.flash.now) c.args.current.head (found_current (geometry c.args.shape) (g.F.Flash.contents c.args.flash.now) c.args.current (c.requires.found tells)) _
    (λ two. refl) (λ one max. absurd (omega (arith, one, c.if-current-eq2.true))) (λ one lesser lacks. absurd (omega (arith, one, c.if-current-eq2.true)))
    (λ one lesser room. absurd (omega (arith, one, c.if-current-eq2.true)))

pub returns-then-current-eq4294967295-clause-exact : goal.returns-then-current-eq4294967295-clause-exact
returns-then-current-eq4294967295-clause-exact g c tells =
    exact_of (geometry c.args.shape) (g.F.Flash.contents c.args.flash.now) c.args.current.head (found_current (geometry c.args.shape) (g.F.Flash.contents c.args.flash.now) c.args.current (c.requires.found tells)) _
    (λ two. absurd (c.if-current-eq2.false two)) (λ one max. tt) (λ one lesser lacks. absurd (omega (arith, lesser, c.if-current-eq4294967295.true)))
    (λ one lesser room. absurd (omega (arith, lesser, c.if-current-eq4294967295.true)))

pub returns-then-not-fits-clause-exact : goal.returns-then-not-fits-clause-exact
returns-then-not-fits-clause-exact g c tells =
    exact_of (geometry c.args.shape) (g.F.Flash.contents c.args.flash.now) c.args.current.head (found_current (geometry c.args.shape) (g.F.Flash.contents c.args.flash.now) c.args.current (c.requires.found tells)) _
    (λ two. absurd (c.if-current-eq2.false two)) (λ one max. absurd (c.if-current-eq4294967295.false max)) (λ one lesser lacks. tt)
    (λ one lesser room. let yes : c.has_room-fits.result ≡ true = c.has_room-fits.ensures.1 room in let no : true ≡ false = sym yes ∙ c.if-not-fits.true in absurd (cc no))

pub returns-in-Ok-clause-exact : goal.returns-in-Ok-clause-exact
returns-in-Ok-clause-exact g c tells =
    let room : HasRoom (geometry c.args.shape) c.args.current.head = c.has_room-fits.ensures.0 c.if-not-fits.false in
    exact_of (geometry c.args.shape) (g.F.Flash.contents c.args.flash.now) c.args.current.head (found_current (geometry c.args.shape) (g.F.Flash.contents c.args.flash.now) c.args.current (c.requires.found tells)) _
    (λ two. absurd (c.if-current-eq2.false two)) (λ one max. absurd (c.if-current-eq4294967295.false max)) (λ one lesser lacks. absurd (lacks room))
    (λ one lesser has. c.in-Ok.ensures.value)

pub returns-in-Err-clause-exact : goal.returns-in-Err-clause-exact
returns-in-Err-clause-exact g c tells =
    exact_of (geometry c.args.shape) (g.F.Flash.contents c.args.flash.now) c.args.current.head (found_current (geometry c.args.shape) (g.F.Flash.contents c.args.flash.now) c.args.current (c.requires.found tells)) _
    (λ two. tt) (λ one max. tt) (λ one lesser lacks. tt) (λ one lesser room. tt)
