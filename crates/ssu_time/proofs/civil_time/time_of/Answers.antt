use Rattle.std.proofs.Common.{◌≡◌, ◌∙◌, Some, ap, arith}
use Rattle.ssu_time.proofs.TextLemmas.{parts_of_text, small_parts}
use Rattle.ssu_time.proofs.UtcLemmas.{same_utc}
use Rattle.ssu_time.proofs.civil_time.time_of.Goals as goal

pub returns-in_err-parts-clause-only : goal.returns-in_err-parts-clause-only
returns-in_err-parts-clause-only c = λ t fits w.
    let e = c.in_err-parts.ensures.only (parts_of_text w) (small_parts w) (c.as_bytes.ensures.value ∙ w.spelled) in cc

pub returns-in_err-mjd-clause-only : goal.returns-in_err-mjd-clause-only
returns-in_err-mjd-clause-only c = λ t fits w.
    let same = c.in_ok-parts.ensures.only (parts_of_text w) (small_parts w) (c.as_bytes.ensures.value ∙ w.spelled) in
    let e : c.in_ok-parts.parts ≡ parts_of_text w = cc in
    let none = c.in_err-mjd.ensures.only t.mjd fits (rw e w.date) (rw e w.on_day) in cc

pub returns-clause-only : goal.returns-clause-only
returns-clause-only c = λ t fits w.
    let same = c.in_ok-parts.ensures.only (parts_of_text w) (small_parts w) (c.as_bytes.ensures.value ∙ w.spelled) in
    let e : c.in_ok-parts.parts ≡ parts_of_text w = cc in
    let day = c.in_ok-mjd.ensures.only t.mjd fits (rw e w.date) (rw e w.on_day) in
    let hour : c.in_ok-parts.parts.hour ≡ w.hour = rw e in
    let minute : c.in_ok-parts.parts.minute ≡ w.minute = rw e in
    let last : c.in_ok-parts.parts.second ≡ w.last = rw e in
    ap Some (same_utc _ t (cc) (omega (arith, w.in_day)))
