-- The bytes of a block stand in its section before the CRC.
use Rattle.std.proofs.Common.{◌≡◌, ℕ, ◌+◌, ◌-◌, List, [], ◌∷◌, ◌++◌, length, take, drop, refl, sym, ap, ◌∙◌, arith, eqb-true, length-append, subst}
use Rattle.std.proofs.lemmas.List.{take-append-drop, take_at, drop_at, length-drop, append_assoc, append-nil}
use Rattle.ts_crc.specs.Crc.{crc_of}
use Rattle.section_form.specs.Long.{LongFields, long_form, unchecked_form, behind_length}
use Rattle.dsmcc_msg.specs.Message.{MessageFields, message}
use Rattle.dsmcc_msg.specs.Block.{DdbFields, Block, ddb_payload, ddb_message, ddb}
use Rattle.tool_load.specs.Growing.{Carries}

-- the text stands before the last n bytes
record Ends (n : ℕ) (all text : List ℕ) : Type 0 where
  front : List ℕ
  behind : List ℕ
  parts : all ≡ front ++ (text ++ behind)
  long : length behind ≡ n

ends_more : (n : ℕ) (all first rest text : List ℕ) → all ≡ first ++ rest → Ends n rest text → Ends n all text
ends_more n all first rest text e ends = record {
  front = first ++ ends.front;
  behind = ends.behind;
  parts = e ∙ ap (λ (xs : List ℕ). first ++ xs) ends.parts ∙ sym (append_assoc first ends.front (text ++ ends.behind));
  long = ends.long;
}

ends_own : (text : List ℕ) → Ends 0 text text
ends_own text = record { front = []; behind = []; parts = sym (append-nil text); long = refl }

ends_inside : (n : ℕ) (all middle text : List ℕ) → Ends n all middle → Ends 0 middle text → Ends n all text
ends_inside n all middle text outer inner = by_behind inner.behind inner.parts inner.long
  where
    by_behind : (behind : List ℕ) → middle ≡ inner.front ++ (text ++ behind) → length behind ≡ 0 → Ends n all text
    by_behind [] e long = record {
      front = outer.front ++ inner.front;
      behind = outer.behind;
      parts =
          outer.parts
          ∙ ap (λ (xs : List ℕ). outer.front ++ (xs ++ outer.behind)) (e ∙ ap (λ (xs : List ℕ). inner.front ++ xs) (append-nil text))
          ∙ ap (λ (xs : List ℕ). outer.front ++ xs) (append_assoc inner.front text outer.behind)
          ∙ sym (append_assoc outer.front inner.front (text ++ outer.behind));
      long = outer.long;
    }
    by_behind (b ∷ bs) e long = absurd (omega (arith, long))

body_ends : (fields : LongFields) (section : List ℕ) → unchecked_form.Spells fields section → Ends 4 section fields.body
unfolding unchecked_form behind_length
body_ends fields section spelled =
    let pair = spelled.2 in
    let size = pair.second in
    let extension = size.filled in
    let version = extension.second in
    let number = version.second in
    let last = number.second in
    let end = last.second in
    let n = length last.back - 4 in
    let body : take n last.back ≡ fields.body = end.1 ∙ ap (λ (f : LongFields). f.body) spelled.1 in
    let tail : Ends 4 last.back fields.body = record {
      front = [];
      behind = drop n last.back;
      parts = sym (ap (λ (xs : List ℕ). xs ++ drop n last.back) (sym body) ∙ take-append-drop n last.back);
      long = omega (arith, length-drop n last.back, end.0);
    } in
    ends_more 4 section pair.front pair.back fields.body pair.parts
    (ends_more 4 pair.back size.front size.inside fields.body size.parts
    (ends_more 4 size.inside extension.front extension.back fields.body extension.parts
    (ends_more 4 extension.back version.front version.back fields.body version.parts
    (ends_more 4 version.back number.front number.back fields.body number.parts
    (ends_more 4 number.back last.front last.back fields.body last.parts tail)))))

payload_ends : (m : MessageFields) (body : List ℕ) → message.Spells m body → Ends 0 body m.payload
unfolding message
payload_ends m body said =
    let discriminator = said.2 in
    let kind = discriminator.second in
    let id = kind.second in
    let transaction = id.second in
    let reserved = transaction.second in
    let adaptation = reserved.second in
    let size = adaptation.second in
    let n = said.0.1.1.1.1.1.0 in
    let payload : drop n size.inside ≡ m.payload = size.filled.1 ∙ ap (λ (f : MessageFields). f.payload) said.1 in
    let tail : Ends 0 size.inside m.payload = record {
      front = take n size.inside;
      behind = [];
      parts = sym (take-append-drop n size.inside) ∙ ap (λ (xs : List ℕ). take n size.inside ++ xs) (payload ∙ sym (append-nil m.payload));
      long = refl;
    } in
    ends_more 0 body discriminator.front discriminator.back m.payload discriminator.parts
    (ends_more 0 discriminator.back kind.front kind.back m.payload kind.parts
    (ends_more 0 kind.back id.front id.back m.payload id.parts
    (ends_more 0 id.back transaction.front transaction.back m.payload transaction.parts
    (ends_more 0 transaction.back reserved.front reserved.back m.payload reserved.parts
    (ends_more 0 reserved.back adaptation.front adaptation.back m.payload adaptation.parts
    (ends_more 0 adaptation.back size.front size.inside m.payload size.parts tail))))))

bytes_end : (d : Block) (payload : List ℕ) → ddb_payload.Spells d payload → Ends 0 payload d.bytes
unfolding ddb_payload
bytes_end d payload said =
    let id = said.2 in
    let version = id.second in
    let reserved = version.second in
    let number = reserved.second in
    let bytes : number.back ≡ d.bytes = number.second ∙ ap (λ (b : Block). b.bytes) said.1 in
    let tail : Ends 0 number.back d.bytes = record { front = []; behind = []; parts = bytes ∙ sym (append-nil d.bytes); long = refl } in
    ends_more 0 payload id.front id.back d.bytes id.parts
    (ends_more 0 id.back version.front version.back d.bytes version.parts
    (ends_more 0 version.back reserved.front reserved.back d.bytes reserved.parts
    (ends_more 0 reserved.back number.front number.back d.bytes number.parts tail)))

carries_end : (section bytes : List ℕ) → crc_of section ≡ 0 → Ends 4 section bytes → Carries section bytes
carries_end section bytes right ends =
    let size : length section ≡ length ends.front + (length bytes + 4) =
    ap length ends.parts ∙ omega (arith, length-append ends.front (bytes ++ ends.behind), length-append bytes ends.behind, ends.long) in
    let n = length section - 4 - length bytes in
    let rest : drop n section ≡ bytes ++ ends.behind = ap (drop n) ends.parts ∙ drop_at ends.front (bytes ++ ends.behind) n (omega (arith, size)) in
    record {
      right = right;
      long = omega (arith, size);
      own = sym (ap (take (length bytes)) rest ∙ take_at bytes ends.behind (length bytes) refl);
    }

pub carried_by : (d : DdbFields) (section : List ℕ) → ddb.Spells d section → Carries section d.bytes
unfolding ddb ddb_message long_form
carried_by d section spelled =
    let form = spelled.2.0.1 in
    let said = spelled.2.1 in
    let bytes : said.0.1.bytes ≡ d.bytes = ap (λ (f : DdbFields). f.bytes) (said.1 ∙ spelled.1) in
    let inner = ends_inside 0 spelled.0.0.body said.0.0.payload said.0.1.bytes (payload_ends said.0.0 spelled.0.0.body said.2.0.1) (bytes_end said.0.1 said.0.0.payload said.2.1) in
    let outer = ends_inside 4 section spelled.0.0.body said.0.1.bytes (body_ends spelled.0.0 section form.1) inner in
    carries_end section d.bytes (eqb-true (crc_of section) 0 form.0) (subst (Ends 4 section) bytes outer)
