-- The header of a journal, place by place of the contents.
use Rattle.std.proofs.Common.{◌≡◌, ℕ, ◌+◌, ◌-◌, ◌*◌, ◌<◌, ◌≤◌, List, get_or, Some, sym, ap, subst, ◌∙◌, arith}
use Rattle.dsmcc_msg.specs.Control.{DiiFields}
use Rattle.flash_layout.specs.Journal.{IsHeader, header_number, message_len}
use Rattle.flash_layout.specs.Pairs.{byte_at, pair_sum}
use Rattle.flash_layout.proofs.PartLemmas.{get_or-part}
use Rattle.flash_kept.specs.Counts.{listed}
use Rattle.flash_kept.specs.Held.{HasHeldMessage, message_in}
use Rattle.flash_kept.specs.Leaving.{SameIn}
use Rattle.flash_kept.specs.SpareArea.{IsInOrder, SpareArea, journal_in, message_place}
use Rattle.flash_kept.proofs.CountLaws.{listed_same}
use Rattle.flash_kept.proofs.PairLaws.{PairsBack, back_same, byte_of, half_of, half_same, same_back, same_within, sum_of, word_of, word_same}

-- the number of bytes of the message, and these
abbrev pub text_len : SpareArea → List ℕ → ℕ
text_len area c = half_of c area.journal 8

abbrev pub text_of : SpareArea → List ℕ → List ℕ
text_of area c = listed (byte_of c (message_place area)) (text_len area c)

-- The header is valid and its number is the next one.
pub record HeaderCounts (area : SpareArea) (c : List ℕ) : Type 0 where
  pub whole : (i : ℕ) → i < 16 → sum_of c area.journal i ≡ 255
  pub magic : word_of c area.journal 0 ≡ 0x5353554A
  pub number : word_of c area.journal 4 ≡ area.next
  pub some : 1 ≤ text_len area c
  pub few : text_len area c ≤ 4084
  pub zeros : (i : ℕ) → i < 6 → byte_of c area.journal (10 + i) ≡ 0
  pub message : (i : ℕ) → i < text_len area c → sum_of c (message_place area) i ≡ 255

module _ (area : SpareArea) (c : List ℕ) (room : 8448 ≤ area.journal_len) where
  byte : (k : ℕ) → k < 8448 → get_or (journal_in area c) k 0 ≡ get_or c (area.journal + k) 0
  byte k lt = get_or-part c area.journal area.journal_len k (omega (arith, room, lt))

  len_is : message_len (journal_in area c) ≡ text_len area c
  len_is = let a = byte 16 (omega arith) in let b = byte 18 (omega arith) in omega (arith, a, b)

  sum_is : (i : ℕ) → i < 16 → pair_sum (journal_in area c) i ≡ sum_of c area.journal i
  sum_is i lt = let first = byte (2 * i) (omega (arith, lt)) in let second = byte (2 * i + 1) (omega (arith, lt)) in omega (arith, first, second)

  text_byte : (i : ℕ) → i < 4084 → byte_at (journal_in area c) (128 + i) ≡ byte_of c (message_place area) i
  text_byte i lt =
      let here : area.journal + 2 * (128 + i) ≡ message_place area + 2 * i = omega arith in
      byte (2 * (128 + i)) (omega (arith, lt)) ∙ ap (λ (p : ℕ). get_or c p 0) here

  text_sum : (i : ℕ) → i < 4084 → pair_sum (journal_in area c) (128 + i) ≡ sum_of c (message_place area) i
  text_sum i lt =
      let first = text_byte i lt in
      let here : area.journal + (2 * (128 + i) + 1) ≡ message_place area + (2 * i + 1) = omega arith in
      let second : get_or (journal_in area c) (2 * (128 + i) + 1) 0 ≡ get_or c (message_place area + (2 * i + 1)) 0 =
      byte (2 * (128 + i) + 1) (omega (arith, lt)) ∙ ap (λ (p : ℕ). get_or c p 0) here in
      omega (arith, first, second)

  pub header_counts : IsHeader (journal_in area c) → header_number (journal_in area c) ≡ area.next → HeaderCounts area c
  header_counts header next =
      let a0 = byte 0 (omega arith) in let a2 = byte 2 (omega arith) in let a4 = byte 4 (omega arith) in let a6 = byte 6 (omega arith) in
      let a8 = byte 8 (omega arith) in let a10 = byte 10 (omega arith) in let a12 = byte 12 (omega arith) in let a14 = byte 14 (omega arith) in
      let len = len_is in let m = header.magic in let some = header.some in let few = header.few in
      record {
        whole = λ i lt. let s = sum_is i lt in let w = header.whole.each i lt in omega (arith, s, w);
        magic = omega (arith, m, a0, a2, a4, a6);
        number = omega (arith, next, a8, a10, a12, a14);
        some = omega (arith, some, len);
        few = omega (arith, few, len);
        zeros = λ i lt. sym (byte (2 * (10 + i)) (omega (arith, lt))) ∙ header.zeros (10 + i) (omega arith) (omega (arith, lt));
        message = λ i lt.
            let below : i < message_len (journal_in area c) = omega (arith, lt, len) in
            let w = header.message i below in let s = text_sum i (omega (arith, below, few)) in omega (arith, s, w);
      }

  pub counts_header : HeaderCounts area c → IsHeader (journal_in area c) × (header_number (journal_in area c) ≡ area.next)
  counts_header counts =
      let a0 = byte 0 (omega arith) in let a2 = byte 2 (omega arith) in let a4 = byte 4 (omega arith) in let a6 = byte 6 (omega arith) in
      let a8 = byte 8 (omega arith) in let a10 = byte 10 (omega arith) in let a12 = byte 12 (omega arith) in let a14 = byte 14 (omega arith) in
      let len = len_is in let m = counts.magic in let n = counts.number in let some = counts.some in let few = counts.few in (
        record {
          whole = record { each = λ i lt. let s = sum_is i lt in let w = counts.whole i lt in omega (arith, s, w) };
          magic = omega (arith, m, a0, a2, a4, a6);
          some = omega (arith, some, len);
          few = omega (arith, few, len);
          zeros = zeros;
          message = λ i lt.
              let below : i < text_len area c = omega (arith, lt, len) in
              let w = counts.message i below in let s = text_sum i (omega (arith, below, few)) in omega (arith, s, w);
        },
        omega (arith, n, a8, a10, a12, a14),
      )
    where
      zeros : (i : ℕ) → 10 ≤ i → i < 16 → byte_at (journal_in area c) i ≡ 0
      zeros i from to =
          let here : 10 + (i - 10) ≡ i = omega (arith, from) in
          byte (2 * i) (omega (arith, to)) ∙ (ap (λ (j : ℕ). byte_of c area.journal j) (sym here) ∙ counts.zeros (i - 10) (omega (arith, from, to)))

  pub text_is : text_len area c ≤ 4084 → message_in (journal_in area c) ≡ text_of area c
  unfolding message_in
  text_is few =
      let len = len_is in
      listed_same (byte_of c (message_place area)) (λ i. byte_at (journal_in area c) (128 + i)) (message_len (journal_in area c)) (λ i lt. text_byte i (omega (arith, lt, few, len)))
      ∙ ap (λ (n : ℕ). listed (byte_of c (message_place area)) n) len

-- a header whose pairs go back, with its message
pub header_back : (area : SpareArea) (x y : List ℕ) → PairsBack area.journal 16 x y → PairsBack (message_place area) 4096 x y → HeaderCounts area y
    → HeaderCounts area x × (text_of area y ≡ text_of area x)
header_back area x y fixed text has =
    let at = area.journal in
    let same : SameIn at 32 x y = same_back at 16 x y fixed has.whole in
    let len : text_len area y ≡ text_len area x = half_same at 8 32 x y (omega arith) same in
    let few = has.few in let some = has.some in
    let body : SameIn (message_place area) (2 * text_len area y) x y = same_back (message_place area) (text_len area y) x y (λ i lt. text i (omega (arith, few, lt))) has.message in
    let magic = word_same at 0 32 x y (omega arith) same in
    let number = word_same at 4 32 x y (omega arith) same in (
      record {
        whole = λ i lt. let w = has.whole i lt in let first = same (2 * i) (omega (arith, lt)) in let second = same (2 * i + 1) (omega (arith, lt)) in omega (arith, w, first, second);
        magic = sym magic ∙ has.magic;
        number = sym number ∙ has.number;
        some = omega (arith, some, len);
        few = omega (arith, few, len);
        zeros = λ i lt. let z = has.zeros i lt in let e = same (2 * (10 + i)) (omega (arith, lt)) in sym e ∙ z;
        message = λ i lt. let below : i < text_len area y = omega (arith, len, lt) in let w = has.message i below in
            let first = body (2 * i) (omega (arith, below)) in let second = body (2 * i + 1) (omega (arith, below)) in omega (arith, w, first, second);
      },
      listed_same (byte_of x (message_place area)) (byte_of y (message_place area)) (text_len area y) (λ i lt. body (2 * i) (omega (arith, lt)))
          ∙ ap (λ (n : ℕ). listed (byte_of x (message_place area)) n) len,
    )

-- ---- a message that is held

pub room_of : (area : SpareArea) → IsInOrder area → 8448 ≤ area.journal_len
room_of area order = let marks = order.marks in let ends = order.ends in omega (arith, marks, ends)

pub counts_of : (area : SpareArea) (c message : List ℕ) (dii : DiiFields) → IsInOrder area → HasHeldMessage area c message dii → HeaderCounts area c
counts_of area c message dii order held = header_counts area c (room_of area order) held.header held.next

some_one : {A : Type 0} (a b : A) → Some a ≡ Some b → a ≡ b
some_one a b e = cc

-- one message is that of one DII
pub dii_one : (area : SpareArea) (c d message : List ℕ) (first second : DiiFields) → HasHeldMessage area c message first → HasHeldMessage area d message second → first ≡ second
dii_one area c d message first second one two = some_one first second (sym one.reads ∙ two.reads)

-- and one header has one message
pub message_one : (area : SpareArea) (c first second : List ℕ) (a b : DiiFields) → HasHeldMessage area c first a → HasHeldMessage area c second b → first ≡ second
message_one area c first second a b one two = one.is ∙ sym two.is

pub held_one : (area : SpareArea) (c first second : List ℕ) (a b : DiiFields) → HasHeldMessage area c first a → HasHeldMessage area c second b → (first ≡ second) × (a ≡ b)
held_one area c first second a b one two =
    let same = message_one area c first second a b one two in
    (same, dii_one area c c second a b (subst (λ (m : List ℕ). HasHeldMessage area c m a) same one) two)

-- a message whose header and text go back
pub held_back : (area : SpareArea) (x y message : List ℕ) (dii : DiiFields) → IsInOrder area → PairsBack area.journal 16 x y → PairsBack (message_place area) 4096 x y
    → HasHeldMessage area y message dii → HasHeldMessage area x message dii
held_back area x y message dii order fixed text held =
    let room = room_of area order in
    let was = header_counts area y room held.header held.next in
    let back = header_back area x y fixed text was in
    let now = counts_header area x room back.0 in
    record {
      header = now.0;
      next = now.1;
      is = held.is ∙ (text_is area y room was.few ∙ (back.1 ∙ sym (text_is area x room back.0.few)));
      reads = held.reads;
      usable = held.usable;
      few = held.few;
    }

pub held_same : (area : SpareArea) (x y message : List ℕ) (dii : DiiFields) → IsInOrder area → SameIn area.journal 8448 x y → HasHeldMessage area y message dii → HasHeldMessage area x message dii
held_same area x y message dii order same held =
    held_back area x y message dii order (back_same area.journal 16 x y (same_within area.journal 8448 area.journal 32 x y (omega arith) (omega arith) same))
    (back_same (message_place area) 4096 x y (same_within area.journal 8448 (message_place area) 8192 x y (omega arith) (omega arith) same)) held
