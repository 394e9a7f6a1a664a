use Rattle.std.proofs.Common.{◌≡◌, ◌<◌, ◌≤◌, ◌^◌, ℕ, List, [], ◌∷◌, ◌++◌, map, ap, sym, subst, ◌∙◌, arith, rules}
use Rattle.std.proofs.lemmas.Fmt.{decimal_injective}
use Rattle.std.specs.Prelude.{codes, decimal, string_bytes}
use Rattle.ssu_tool.specs.Spares.{IsFlashCommand}
use Rattle.ssu_tool.proofs.SparesLemmas.{ends_of, last_two}
use Rattle.ssu_tool.proofs.spares.Spared.parse.Goals as goal

pub returns-then-not-is_keyword-clause-only : goal.returns-then-not-is_keyword-clause-only
returns-then-not-is_keyword-clause-only c = λ front n ends.
    let last : c.args.words.now ≡ c.in-Some.rest.now ++ c.in-Some.count.now ∷ [] = search rules in
    let before : c.in-Some.rest.now ≡ c.in-Some-split_last.front.now ++ c.in-Some-split_last.keyword.now ∷ [] = search rules in
    let whole = ends_of string_bytes c.args.words.now c.in-Some.rest.now c.in-Some-split_last.front.now c.in-Some.count.now c.in-Some-split_last.keyword.now last before in
    let read : c.deref.result.now ≡ string_bytes c.in-Some-split_last.keyword.now = search rules in
    let two = last_two (map string_bytes c.in-Some-split_last.front.now) front (string_bytes c.in-Some-split_last.keyword.now) (string_bytes c.in-Some.count.now) (codes "spares") (decimal n) (sym whole ∙ ends.spelled) in
    let hit : c.deref.result.now ≡ codes "spares" = read ∙ two.1 in
    let yes = c.is_keyword.ensures.1 hit in
    cc

pub returns-in_default-number-clause-only : goal.returns-in_default-number-clause-only
returns-in_default-number-clause-only c = λ front n ends.
    let last : c.args.words.now ≡ c.in-Some.rest.now ++ c.in-Some.count.now ∷ [] = search rules in
    let before : c.in-Some.rest.now ≡ c.in-Some-split_last.front.now ++ c.in-Some-split_last.keyword.now ∷ [] = search rules in
    let whole = ends_of string_bytes c.args.words.now c.in-Some.rest.now c.in-Some-split_last.front.now c.in-Some.count.now c.in-Some-split_last.keyword.now last before in
    let read : c.deref.result.now ≡ string_bytes c.in-Some-split_last.keyword.now = search rules in
    let two = last_two (map string_bytes c.in-Some-split_last.front.now) front (string_bytes c.in-Some-split_last.keyword.now) (string_bytes c.in-Some.count.now) (codes "spares") (decimal n) (sym whole ∙ ends.spelled) in
    let word : c.deref-2.result.now ≡ string_bytes c.in-Some.count.now = search rules in
    let is = c.in_default-number.ensures.only n ends.few (word ∙ two.2) in
    cc

pub returns-then-spares-eq0-clause-only : goal.returns-then-spares-eq0-clause-only
returns-then-spares-eq0-clause-only c = λ front n ends.
    let last : c.args.words.now ≡ c.in-Some.rest.now ++ c.in-Some.count.now ∷ [] = search rules in
    let before : c.in-Some.rest.now ≡ c.in-Some-split_last.front.now ++ c.in-Some-split_last.keyword.now ∷ [] = search rules in
    let whole = ends_of string_bytes c.args.words.now c.in-Some.rest.now c.in-Some-split_last.front.now c.in-Some.count.now c.in-Some-split_last.keyword.now last before in
    let read : c.deref.result.now ≡ string_bytes c.in-Some-split_last.keyword.now = search rules in
    let two = last_two (map string_bytes c.in-Some-split_last.front.now) front (string_bytes c.in-Some-split_last.keyword.now) (string_bytes c.in-Some.count.now) (codes "spares") (decimal n) (sym whole ∙ ends.spelled) in
    let word : c.deref-2.result.now ≡ string_bytes c.in-Some.count.now = search rules in
    let fits : c.in-Some-number.spares ≤ 255 = search rules in
    let small : c.in-Some-number.spares < 2 ^ 64 = omega (arith, fits) in
    let wide : n < 2 ^ 64 = omega (arith, ends.few) in
    let same : c.in-Some-number.spares ≡ n = decimal_injective c.in-Some-number.spares n small wide (sym c.in-Some-number.ensures.written ∙ (word ∙ two.2)) in
    absurd (omega (arith, same, c.if-spares-eq0.true, ends.some))

pub returns-clause-ends : goal.returns-clause-ends
returns-clause-ends c =
    let last : c.args.words.now ≡ c.in-Some.rest.now ++ c.in-Some.count.now ∷ [] = search rules in
    let before : c.in-Some.rest.now ≡ c.in-Some-split_last.front.now ++ c.in-Some-split_last.keyword.now ∷ [] = search rules in
    let whole = ends_of string_bytes c.args.words.now c.in-Some.rest.now c.in-Some-split_last.front.now c.in-Some.count.now c.in-Some-split_last.keyword.now last before in
    let read : c.deref.result.now ≡ string_bytes c.in-Some-split_last.keyword.now = search rules in
    let word : c.deref-2.result.now ≡ string_bytes c.in-Some.count.now = search rules in
    let front = map string_bytes c.in-Some-split_last.front.now in
    let keyword : string_bytes c.in-Some-split_last.keyword.now ≡ codes "spares" = search rules in
    let number : string_bytes c.in-Some.count.now ≡ decimal c.from.result = sym word ∙ (c.in-Some-number.ensures.written ∙ ap decimal (sym c.from.ensures)) in
    let fits : c.in-Some-number.spares ≤ 255 = search rules in (
      front,
      record {
        spelled = whole ∙ (ap (λ (k : List ℕ). front ++ k ∷ string_bytes c.in-Some.count.now ∷ []) keyword ∙ ap (λ (k : List ℕ). front ++ codes "spares" ∷ k ∷ []) number);
        some = omega (arith, c.from.ensures, c.if-spares-eq0.false);
        few = omega (arith, c.from.ensures, fits);
      },
    )

pub returns-clause-only : goal.returns-clause-only
returns-clause-only c = λ front n ends.
    let last : c.args.words.now ≡ c.in-Some.rest.now ++ c.in-Some.count.now ∷ [] = search rules in
    let before : c.in-Some.rest.now ≡ c.in-Some-split_last.front.now ++ c.in-Some-split_last.keyword.now ∷ [] = search rules in
    let whole = ends_of string_bytes c.args.words.now c.in-Some.rest.now c.in-Some-split_last.front.now c.in-Some.count.now c.in-Some-split_last.keyword.now last before in
    let read : c.deref.result.now ≡ string_bytes c.in-Some-split_last.keyword.now = search rules in
    let two = last_two (map string_bytes c.in-Some-split_last.front.now) front (string_bytes c.in-Some-split_last.keyword.now) (string_bytes c.in-Some.count.now) (codes "spares") (decimal n) (sym whole ∙ ends.spelled) in
    let word : c.deref-2.result.now ≡ string_bytes c.in-Some.count.now = search rules in
    let fits : c.in-Some-number.spares ≤ 255 = search rules in
    let small : c.in-Some-number.spares < 2 ^ 64 = omega (arith, fits) in
    let wide : n < 2 ^ 64 = omega (arith, ends.few) in
    let same : c.in-Some-number.spares ≡ n = decimal_injective c.in-Some-number.spares n small wide (sym c.in-Some-number.ensures.written ∙ (word ∙ two.2)) in
    (c.from.ensures ∙ same, subst (λ (f : List (List ℕ)). IsFlashCommand f c.flash_command.result) two.0 c.flash_command.ensures)
