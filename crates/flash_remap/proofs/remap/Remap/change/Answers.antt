use Rattle.std.proofs.Common.{◌≡◌, inl, inr, ⊎_elim, ◌+◌, ◌<◌, ◌≤◌, true, length, length-append, ℕ, List, [], ◌∷◌, refl, sym, ◌∙◌, ap, subst, arith, rules}
use Rattle.std.proofs.lemmas.Bool.{false≢true, true≢false}
use Rattle.flash_remap.specs.Added.{AddsFor}
use Rattle.flash_remap.specs.Layout.{left_from, map_place, slots_in, spare_block}
use Rattle.flash_remap.specs.Map.{AreNext, are_below, place_among, place_of}
use Rattle.flash_remap.specs.Shape.{geometry}
use Rattle.flash_remap.specs.declared.entry.Entry.{Entry}
use Rattle.flash_remap.specs.declared.layout.Next.{Next}
use Rattle.ssu_io.specs.Faults.{Rose}
use Rattle.flash_remap.proofs.AddedLemmas.{adds_none}
use Rattle.flash_remap.proofs.CountLemmas.{fewer_left, one_less}
use Rattle.flash_remap.proofs.FillLemmas.{same_product}
use Rattle.flash_remap.proofs.LeavingLemmas.{left_none}
use Rattle.flash_remap.proofs.NextLemmas.{blank_from_next}
use Rattle.flash_remap.proofs.RemapLemmas.{below_entry, below_later, elapses_or, finds_beneath, place_below, stands_more, stands_still, torn_still}
use Rattle.flash_remap.proofs.remap.Remap.change.Goals as goal

pub returns-then-self-clause-torn : goal.returns-then-self-clause-torn
returns-then-self-clause-torn g c tells =
    let F = g.F.Flash in
    let me = c.args.self.now in
    let G = geometry me.layout in
    let x = F.contents me.inner in
    let b = c.args.block in
    let ch = c.args.change in
    torn_still G ch x b c.requires.bytes (g.met.F.Flash.are_bytes tells me.inner) (c.requires.finds tells)

pub change_block-moved-requires-clause-from : goal.change_block-moved-requires-clause-from
change_block-moved-requires-clause-from g c =
    let F = g.F.Flash in
    let me = c.args.self.now in
    let G = geometry me.layout in
    let x = F.contents me.inner in
    let b = c.args.block in
    let ch = c.args.change in
    let from_is : c.place_among-from.result ≡ place_among G me.entries.items b = c.place_among-from.ensures ∙ ap (λ (es : List Entry). place_among G es b) c.as_slice.ensures.value in
    subst (λ (p : ℕ). p < spare_block G me.next.spare) (sym from_is) (place_below G me.entries.items b me.next.spare me.in_use c.requires.block)

pub change_block-moved-requires-clause-finds : goal.change_block-moved-requires-clause-finds
change_block-moved-requires-clause-finds g c tells =
    let F = g.F.Flash in
    let me = c.args.self.now in
    let G = geometry me.layout in
    let x = F.contents me.inner in
    let b = c.args.block in
    let ch = c.args.change in
    let from_is : c.place_among-from.result ≡ place_among G me.entries.items b = c.place_among-from.ensures ∙ ap (λ (es : List Entry). place_among G es b) c.as_slice.ensures.value in
    finds_beneath G ch x b c.place_among-from.result c.requires.block c.requires.inside (sym (me.stands tells c.if-self.false b c.requires.block) ∙ sym from_is) (c.requires.finds tells)

pub change_block-moved-requires-clause-blank : goal.change_block-moved-requires-clause-blank
change_block-moved-requires-clause-blank g c tells =
    let F = g.F.Flash in
    let me = c.args.self.now in
    let G = geometry me.layout in
    let x = F.contents me.inner in
    let b = c.args.block in
    let ch = c.args.change in
    let whole : map_place G + me.layout.block_size ≤ length x = omega (arith, me.whole tells, same_product _ _ _ _ me.blocks me.block_size) in
    blank_from_next G x me.next.slot whole (me.next_is tells c.if-self.false).slot_is

pub returns-in-Ok-None-clause-time : goal.returns-in-Ok-None-clause-time
returns-in-Ok-None-clause-time g c =
    let F = g.F.Flash in
    let me = c.args.self.now in
    let G = geometry me.layout in
    let x = F.contents me.inner in
    let b = c.args.block in
    let ch = c.args.change in
    elapses_or _ _ _ _ _ _ c.change_block-moved.ensures.time

pub returns-in-Ok-None-clause-counts : goal.returns-in-Ok-None-clause-counts
returns-in-Ok-None-clause-counts g c tells moments goes t left le torn =
    let F = g.F.Flash in
    let me = c.args.self.now in
    let G = geometry me.layout in
    let x = F.contents me.inner in
    let b = c.args.block in
    let ch = c.args.change in
    c.change_block-moved.ensures.counts tells moments (λ h. goes (inr h)) t left le torn

pub returns-in-Ok-None-clause-answers : goal.returns-in-Ok-None-clause-answers
returns-in-Ok-None-clause-answers g c =
    let F = g.F.Flash in
    let me = c.args.self.now in
    let G = geometry me.layout in
    let x = F.contents me.inner in
    let b = c.args.block in
    let ch = c.args.change in
    record {
      geometry = refl;
      blocks = c.change_block-moved.ensures.blocks;
      block_size = c.change_block-moved.ensures.block_size;
      ok = λ is. refl;
      err = λ is. absurd (false≢true is);
      cause = λ is. absurd (false≢true is);
      uses = c.change_block-moved.ensures.uses;
      later = c.change_block-moved.ensures.later;
      worn = λ is. absurd (true≢false (sym is ∙ c.if-self.false));
    }

pub returns-in-Ok-None-clause-wears : goal.returns-in-Ok-None-clause-wears
returns-in-Ok-None-clause-wears g c =
    let F = g.F.Flash in
    let me = c.args.self.now in
    let G = geometry me.layout in
    let x = F.contents me.inner in
    let b = c.args.block in
    let ch = c.args.change in
    record { none_left = λ is not. absurd (false≢true is); tried = λ is not. absurd (false≢true is); worn = λ is. absurd (false≢true is); goes_on = λ is. c.if-self.false }

pub returns-in-Ok-Some-clause-time : goal.returns-in-Ok-Some-clause-time
returns-in-Ok-Some-clause-time g c =
    let F = g.F.Flash in
    let me = c.args.self.now in
    let G = geometry me.layout in
    let x = F.contents me.inner in
    let b = c.args.block in
    let ch = c.args.change in
    elapses_or _ _ _ _ _ _ c.change_block-moved.ensures.time

pub returns-in-Ok-Some-clause-counts : goal.returns-in-Ok-Some-clause-counts
returns-in-Ok-Some-clause-counts g c tells moments goes t left le torn =
    let F = g.F.Flash in
    let me = c.args.self.now in
    let G = geometry me.layout in
    let x = F.contents me.inner in
    let b = c.args.block in
    let ch = c.args.change in
    c.change_block-moved.ensures.counts tells moments (λ h. goes (inr h)) t left le torn

pub returns-in-Ok-Some-clause-answers : goal.returns-in-Ok-Some-clause-answers
returns-in-Ok-Some-clause-answers g c =
    let F = g.F.Flash in
    let me = c.args.self.now in
    let G = geometry me.layout in
    let x = F.contents me.inner in
    let b = c.args.block in
    let ch = c.args.change in
    record {
      geometry = refl;
      blocks = c.change_block-moved.ensures.blocks;
      block_size = c.change_block-moved.ensures.block_size;
      ok = λ is. refl;
      err = λ is. absurd (false≢true is);
      cause = λ is. absurd (false≢true is);
      uses = c.change_block-moved.ensures.uses;
      later = c.change_block-moved.ensures.later;
      worn = λ is. absurd (true≢false (sym is ∙ c.if-self.false));
    }

pub returns-in-Ok-Some-clause-wears : goal.returns-in-Ok-Some-clause-wears
returns-in-Ok-Some-clause-wears g c =
    let F = g.F.Flash in
    let me = c.args.self.now in
    let G = geometry me.layout in
    let x = F.contents me.inner in
    let b = c.args.block in
    let ch = c.args.change in
    record { none_left = λ is not. absurd (false≢true is); tried = λ is not. absurd (false≢true is); worn = λ is. absurd (false≢true is); goes_on = λ is. c.if-self.false }

pub returns-in-Err-clause-torn : goal.returns-in-Err-clause-torn
returns-in-Err-clause-torn g c tells =
    let F = g.F.Flash in
    let me = c.args.self.now in
    let G = geometry me.layout in
    let x = F.contents me.inner in
    let b = c.args.block in
    let ch = c.args.change in
    c.change_block-moved.ensures.torn tells

pub returns-in-Err-clause-time : goal.returns-in-Err-clause-time
returns-in-Err-clause-time g c =
    let F = g.F.Flash in
    let me = c.args.self.now in
    let G = geometry me.layout in
    let x = F.contents me.inner in
    let b = c.args.block in
    let ch = c.args.change in
    elapses_or _ _ _ _ _ _ c.change_block-moved.ensures.time

pub returns-in-Err-clause-counts : goal.returns-in-Err-clause-counts
returns-in-Err-clause-counts g c tells moments goes t left le torn =
    let F = g.F.Flash in
    let me = c.args.self.now in
    let G = geometry me.layout in
    let x = F.contents me.inner in
    let b = c.args.block in
    let ch = c.args.change in
    c.change_block-moved.ensures.counts tells moments (λ h. goes (inr h)) t left le torn

pub returns-in-Err-clause-halt : goal.returns-in-Err-clause-halt
returns-in-Err-clause-halt g c halted =
    let F = g.F.Flash in
    let me = c.args.self.now in
    let G = geometry me.layout in
    let x = F.contents me.inner in
    let b = c.args.block in
    let ch = c.args.change in
    (refl, inl refl)

pub returns-in-Err-clause-answers : goal.returns-in-Err-clause-answers
returns-in-Err-clause-answers g c =
    let F = g.F.Flash in
    let me = c.args.self.now in
    let G = geometry me.layout in
    let x = F.contents me.inner in
    let b = c.args.block in
    let ch = c.args.change in
    record {
      geometry = refl;
      blocks = c.change_block-moved.ensures.blocks;
      block_size = c.change_block-moved.ensures.block_size;
      ok = λ is. absurd (false≢true is);
      err = λ is. search rules;
      cause = λ is. inr c.in-Err.ensures.rose;
      uses = c.change_block-moved.ensures.uses;
      later = c.change_block-moved.ensures.later;
      worn = λ is. (refl, refl);
    }

pub returns-in-Err-clause-wears : goal.returns-in-Err-clause-wears
returns-in-Err-clause-wears g c =
    let F = g.F.Flash in
    let me = c.args.self.now in
    let G = geometry me.layout in
    let x = F.contents me.inner in
    let b = c.args.block in
    let ch = c.args.change in
    record { none_left = λ is not. c.in-Err.ensures.none_left; tried = λ is not. c.in-Err.ensures.tried; worn = λ is. refl; goes_on = λ is. absurd (false≢true is) }

pub invariant_of-self-in-Ok-None-clause-in_use : goal.invariant_of-self-in-Ok-None-clause-in_use
invariant_of-self-in-Ok-None-clause-in_use g c =
    let F = g.F.Flash in
    let me = c.args.self.now in
    let G = geometry me.layout in
    let x = F.contents me.inner in
    let b = c.args.block in
    let ch = c.args.change in
    below_later me.entries.items me.next.spare c.change_block-moved.new.next.spare c.change_block-moved.ensures.spare me.in_use

pub invariant_of-self-in-Ok-None-clause-few : goal.invariant_of-self-in-Ok-None-clause-few
invariant_of-self-in-Ok-None-clause-few g c =
    let F = g.F.Flash in
    let me = c.args.self.now in
    let G = geometry me.layout in
    let x = F.contents me.inner in
    let b = c.args.block in
    let ch = c.args.change in
    omega (arith, me.few, c.change_block-moved.ensures.spare)

pub invariant_of-self-in-Err-clause-in_use : goal.invariant_of-self-in-Err-clause-in_use
invariant_of-self-in-Err-clause-in_use g c =
    let F = g.F.Flash in
    let me = c.args.self.now in
    let G = geometry me.layout in
    let x = F.contents me.inner in
    let b = c.args.block in
    let ch = c.args.change in
    below_later me.entries.items me.next.spare c.change_block-moved.new.next.spare c.change_block-moved.ensures.spare me.in_use

pub invariant_of-self-in-Err-clause-few : goal.invariant_of-self-in-Err-clause-few
invariant_of-self-in-Err-clause-few g c =
    let F = g.F.Flash in
    let me = c.args.self.now in
    let G = geometry me.layout in
    let x = F.contents me.inner in
    let b = c.args.block in
    let ch = c.args.change in
    omega (arith, me.few, c.change_block-moved.ensures.spare)

pub invariant_of-self-in-Ok-None-clause-stands : goal.invariant_of-self-in-Ok-None-clause-stands
invariant_of-self-in-Ok-None-clause-stands g c tells not =
    let F = g.F.Flash in
    let me = c.args.self.now in
    let G = geometry me.layout in
    let x = F.contents me.inner in
    let b = c.args.block in
    let ch = c.args.change in
    stands_still G me.entries.items b x (F.contents c.change_block-moved.new.inner) (me.stands tells not) c.requires.block (c.change_block-moved.ensures.others tells)
    (let here : place_of G (F.contents c.change_block-moved.new.inner) b ≡ c.place_among-from.result = search rules in here ∙ (c.place_among-from.ensures ∙ ap (λ (es : List Entry). place_among G es b) c.as_slice.ensures.value))

pub invariant_of-self-in-Ok-None-clause-used_up : goal.invariant_of-self-in-Ok-None-clause-used_up
invariant_of-self-in-Ok-None-clause-used_up g c worn =
    let F = g.F.Flash in
    let me = c.args.self.now in
    let G = geometry me.layout in
    let x = F.contents me.inner in
    let b = c.args.block in
    let ch = c.args.change in
    absurd (true≢false (sym worn ∙ c.if-self.false))

pub invariant_of-self-in-Err-clause-stands : goal.invariant_of-self-in-Err-clause-stands
invariant_of-self-in-Err-clause-stands g c tells not =
    let F = g.F.Flash in
    let me = c.args.self.now in
    let G = geometry me.layout in
    let x = F.contents me.inner in
    let b = c.args.block in
    let ch = c.args.change in
    absurd (true≢false not)

pub invariant_of-self-in-Err-clause-next_is : goal.invariant_of-self-in-Err-clause-next_is
invariant_of-self-in-Err-clause-next_is g c tells not =
    let F = g.F.Flash in
    let me = c.args.self.now in
    let G = geometry me.layout in
    let x = F.contents me.inner in
    let b = c.args.block in
    let ch = c.args.change in
    absurd (true≢false not)

pub invariant_of-self-in-Err-clause-used_up : goal.invariant_of-self-in-Err-clause-used_up
invariant_of-self-in-Err-clause-used_up g c worn =
    let F = g.F.Flash in
    let me = c.args.self.now in
    let G = geometry me.layout in
    let x = F.contents me.inner in
    let b = c.args.block in
    let ch = c.args.change in
    c.in-Err.ensures.none_left

pub invariant_of-self-in-Ok-Some-clause-in_use : goal.invariant_of-self-in-Ok-Some-clause-in_use
invariant_of-self-in-Ok-Some-clause-in_use g c =
    let F = g.F.Flash in
    let me = c.args.self.now in
    let G = geometry me.layout in
    let x = F.contents me.inner in
    let y = F.contents c.change_block-moved.new.inner in
    let b = c.args.block in
    let e = c.in-Ok-Some.entry in
    let next = c.change_block-moved.new.next.spare in
    let block_is : e.block ≡ b = search rules in
    let least : me.next.spare ≤ e.spare = search rules in
    let next_is : e.spare + 1 ≡ next = search rules in
    subst (λ (es : List Entry). are_below es next ≡ true) (sym c.push.ensures.items) (below_entry me.entries.items e me.next.spare next me.in_use least next_is)

pub invariant_of-self-in-Ok-Some-clause-few : goal.invariant_of-self-in-Ok-Some-clause-few
invariant_of-self-in-Ok-Some-clause-few g c =
    let F = g.F.Flash in
    let me = c.args.self.now in
    let G = geometry me.layout in
    let x = F.contents me.inner in
    let y = F.contents c.change_block-moved.new.inner in
    let b = c.args.block in
    let e = c.in-Ok-Some.entry in
    let next = c.change_block-moved.new.next.spare in
    let block_is : e.block ≡ b = search rules in
    let least : me.next.spare ≤ e.spare = search rules in
    let next_is : e.spare + 1 ≡ next = search rules in
    omega (arith, ap length c.push.ensures.items, length-append me.entries.items (e ∷ []), me.few, least, next_is)

pub invariant_of-self-in-Ok-Some-clause-stands : goal.invariant_of-self-in-Ok-Some-clause-stands
invariant_of-self-in-Ok-Some-clause-stands g c tells not =
    let F = g.F.Flash in
    let me = c.args.self.now in
    let G = geometry me.layout in
    let x = F.contents me.inner in
    let y = F.contents c.change_block-moved.new.inner in
    let b = c.args.block in
    let e = c.in-Ok-Some.entry in
    let next = c.change_block-moved.new.next.spare in
    let block_is : e.block ≡ b = search rules in
    let least : me.next.spare ≤ e.spare = search rules in
    let next_is : e.spare + 1 ≡ next = search rules in
    let here : place_of G y b ≡ spare_block G e.spare = search rules in
    subst (λ (es : List Entry). (block : ℕ) → block < me.layout.logical → place_among G es block ≡ place_of G y block) (sym c.push.ensures.items)
    (stands_more G me.entries.items e x y (me.stands tells not) (λ other apart. c.change_block-moved.ensures.others tells other (λ is. apart (is ∙ sym block_is))) (ap (place_of G y) block_is ∙ here))

pub returns-then-self-clause-places : goal.returns-then-self-clause-places
returns-then-self-clause-places g c =
    let F = g.F.Flash in
    let me = c.args.self.now in
    let G = geometry me.layout in
    let x = F.contents me.inner in
    let b = c.args.block in
    let none = adds_none G b x x (λ slot lt. refl) in
    record {
      adds = λ tells. none;
      left_beneath = left_none F me.inner (AddsFor G b x) (g.met.F.Flash.only_now me.inner) (λ tells. none);
      fewer = omega arith;
      done = λ is. absurd (false≢true is);
    }

pub returns-in-Ok-None-clause-places : goal.returns-in-Ok-None-clause-places
returns-in-Ok-None-clause-places g c =
    let F = g.F.Flash in
    let me = c.args.self.now in
    let G = geometry me.layout in
    let x = F.contents me.inner in
    let b = c.args.block in
    let new = c.change_block-moved.new in
    let same : new.next ≡ me.next = search rules in
    let here = λ (tells : F.tells). let is : place_of G (F.contents new.inner) b ≡ c.place_among-from.result = search rules in is in
    let from_is : c.place_among-from.result ≡ place_among G me.entries.items b = c.place_among-from.ensures ∙ ap (λ (es : List Entry). place_among G es b) c.as_slice.ensures.value in
    record {
      adds = c.change_block-moved.ensures.adds;
      left_beneath = c.change_block-moved.ensures.adds_left;
      fewer = fewer_left me.layout.spares (slots_in G) me.next.spare me.next.slot new.next.spare new.next.slot c.change_block-moved.ensures.spare c.change_block-moved.ensures.slot;
      done = λ is. inl (record {
        place = λ tells. here tells ∙ (from_is ∙ me.stands tells c.if-self.false b c.requires.block);
        left = ap (λ (n : Next). left_from G n.spare n.slot) same;
      });
    }

pub returns-in-Ok-Some-clause-places : goal.returns-in-Ok-Some-clause-places
returns-in-Ok-Some-clause-places g c =
    let F = g.F.Flash in
    let me = c.args.self.now in
    let G = geometry me.layout in
    let x = F.contents me.inner in
    let b = c.args.block in
    let new = c.change_block-moved.new in
    let e = c.in-Ok-Some.entry in
    let least : me.next.spare ≤ e.spare = search rules in
    let next_is : e.spare + 1 ≡ new.next.spare = search rules in
    let slot_used : me.next.slot + 1 ≤ new.next.slot = search rules in
    let risen : Rose (F.faults me.inner) (F.faults new.inner) = search rules in
    record {
      adds = c.change_block-moved.ensures.adds;
      left_beneath = c.change_block-moved.ensures.adds_left;
      fewer = fewer_left me.layout.spares (slots_in G) me.next.spare me.next.slot new.next.spare new.next.slot c.change_block-moved.ensures.spare c.change_block-moved.ensures.slot;
      done = λ is. inr (record {
        spare = e.spare;
        place = λ tells. let here : place_of G (F.contents new.inner) b ≡ spare_block G e.spare = search rules in here;
        unused = λ tells. omega (arith, (me.next_is tells c.if-self.false).spare_is, least);
        last = λ tells. let next : AreNext G (F.contents new.inner) new.next.spare new.next.slot = search rules in next.spare_is ∙ sym next_is;
        tried = λ tells. ⊎_elim (λ top. inl top) (λ count. inr (omega (arith, count, next_is, (me.next_is tells c.if-self.false).spare_is))) c.change_block-moved.ensures.counted;
        left = one_less me.layout.spares (slots_in G) me.next.spare me.next.slot new.next.spare new.next.slot (omega (arith, least, next_is)) c.change_block-moved.ensures.most_spare slot_used c.change_block-moved.ensures.most_slot;
        rose = risen;
      });
    }

pub returns-in-Err-clause-places : goal.returns-in-Err-clause-places
returns-in-Err-clause-places g c =
    let F = g.F.Flash in
    let me = c.args.self.now in
    let G = geometry me.layout in
    let x = F.contents me.inner in
    let b = c.args.block in
    let new = c.change_block-moved.new in
    record {
      adds = c.change_block-moved.ensures.adds;
      left_beneath = c.change_block-moved.ensures.adds_left;
      fewer = fewer_left me.layout.spares (slots_in G) me.next.spare me.next.slot new.next.spare new.next.slot c.change_block-moved.ensures.spare c.change_block-moved.ensures.slot;
      done = λ is. absurd (false≢true is);
    }
