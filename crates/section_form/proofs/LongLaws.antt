-- A section in the long form: what is written is read, and is right.
use Rattle.std.proofs.Common.{eq-eqb, le-leb, ◌≡◌, ◌≢◌, ℕ, ◌+◌, ◌-◌, ◌*◌, ◌/◌, ◌%◌, ◌^◌, ◌<◌, ◌≤◌, ◌&&◌, Bool, true, false, List, ◌++◌, length, Some, inl, inr, refl, sym, ◌∙◌, subst, arith}
use Rattle.std.proofs.lemmas.List.{length-append, take_at}
use Rattle.ts_crc.specs.Crc.{crc_of}
use Rattle.ts_crc.proofs.CrcLaws.{crc_appended}
use Rattle.wire.specs.Format.{sized, before, rest}
use Rattle.wire.specs.Number.{bytes_of}
use Rattle.wire.proofs.Numbers.{number1_put, number2_put}
use Rattle.section_form.specs.Long.{LongFields, long_form, unchecked_form, long_head, current_version, behind_length}
use Rattle.section_form.proofs.Exact.{long_form_exact}
use Rattle.section_form.specs.Section.{IsRightSection, section_length, table_id}
use Rattle.section_form.specs.Written.{head_bits, long_text, long_bytes}

-- the ranges of what is written
pub record Fits (head : LongFields) : Type 0 where
  pub table : head.table < 2 ^ 8
  pub extension : head.extension < 2 ^ 16
  pub version : head.version < 32
  pub number : head.number < 2 ^ 8
  pub last : head.last < 2 ^ 8
  pub body : length head.body ≤ 4084

head_bits_few : (second_bit : Bool) → (11 ≤ head_bits second_bit) × (head_bits second_bit ≤ 15)
head_bits_few true = (omega arith, omega arith)
head_bits_few false = (omega arith, omega arith)

both_true : (a b : Bool) → a ≡ true → b ≡ true → a && b ≡ true
both_true a b e f = rw (e, f) refl

head_spelled : (bits n : ℕ) → 11 ≤ bits → bits ≤ 15 → n ≤ 4093 → long_head.Spells n (bytes_of 2 (bits * 4096 + n))
unfolding long_head
head_spelled bits n low high few = (
  bits * 4096 + n,
  omega arith,
  (
    both_true _ _ (eq-eqb ((bits * 4096 + n) / 2 ^ 15) 1 (omega arith)) (le-leb ((bits * 4096 + n) % 2 ^ 12) 4093 (omega arith)),
    number2_put (bits * 4096 + n) (omega arith),
  ),
)

version_spelled : (n : ℕ) → n < 32 → current_version.Spells n (bytes_of 1 (0xC1 + 2 * n))
unfolding current_version
version_spelled n few =
    (0xC1 + 2 * n, omega arith, (eq-eqb ((0xC1 + 2 * n) % 2) 1 (omega arith), number1_put (0xC1 + 2 * n) (omega arith)))

-- what stands behind section_length
inside_bytes : LongFields → ℕ → List ℕ
inside_bytes head crc =
    bytes_of 2 head.extension ++ (bytes_of 1 (0xC1 + 2 * head.version) ++ (bytes_of 1 head.number ++ (bytes_of 1 head.last ++ (head.body ++ bytes_of 4 crc))))

length-inside : (head : LongFields) (crc : ℕ) → length (inside_bytes head crc) ≡ 9 + length head.body
unfolding inside_bytes
length-inside head crc = let l = length-append head.body (bytes_of 4 crc) in omega arith

behind_body : (body : List ℕ) (crc : ℕ) → (before 4 rest).Spells body (body ++ bytes_of 4 crc)
behind_body body crc =
    let l : length (body ++ bytes_of 4 crc) ≡ length body + 4 = length-append body (bytes_of 4 crc) in
    (omega arith, take_at body (bytes_of 4 crc) (length (body ++ bytes_of 4 crc) - 4) (omega arith))

inside_spelled : (head : LongFields) (crc : ℕ) → Fits head
    → behind_length.Spells (head.extension, (head.version, (head.number, (head.last, head.body)))) (inside_bytes head crc)
unfolding behind_length inside_bytes
inside_spelled head crc fits =
    record {
      front = bytes_of 2 head.extension;
      back = _;
      parts = refl;
      first = number2_put head.extension fits.extension;
      second = record {
        front = bytes_of 1 (0xC1 + 2 * head.version);
        back = _;
        parts = refl;
        first = version_spelled head.version fits.version;
        second = record {
          front = bytes_of 1 head.number;
          back = _;
          parts = refl;
          first = number1_put head.number fits.number;
          second = record {
            front = bytes_of 1 head.last;
            back = head.body ++ bytes_of 4 crc;
            parts = refl;
            first = number1_put head.last fits.last;
            second = behind_body head.body crc;
          };
        };
      };
    }

-- the bytes behind table_id
sized_spelled : (second_bit : Bool) (head : LongFields) (crc : ℕ) → Fits head
    → (sized long_head behind_length).Spells (head.extension, (head.version, (head.number, (head.last, head.body))))
    (bytes_of 2 (head_bits second_bit * 4096 + (9 + length head.body)) ++ inside_bytes head crc)
sized_spelled second_bit head crc fits =
    let few = head_bits_few second_bit in
    let len = 9 + length head.body in
    record {
      front = bytes_of 2 (head_bits second_bit * 4096 + len);
      inside = inside_bytes head crc;
      parts = refl;
      len = subst (λ (n : ℕ). long_head.Spells n (bytes_of 2 (head_bits second_bit * 4096 + len)))
          (sym (length-inside head crc)) (head_spelled (head_bits second_bit) len few.0 few.1 (let b = fits.body in omega arith));
      filled = inside_spelled head crc fits;
    }

-- The CRC over the whole section is 0.
crc_zero : (second_bit : Bool) (head : LongFields) → crc_of (long_bytes second_bit head) ≡ 0
unfolding long_bytes
crc_zero second_bit head = crc_appended (long_text second_bit head)

pub long_spelled : (second_bit : Bool) (head : LongFields) → Fits head → long_form.Spells head (long_bytes second_bit head)
unfolding long_form unchecked_form long_bytes long_text inside_bytes
long_spelled second_bit head fits =
    let crc = crc_of (long_text second_bit head) in (
      eq-eqb _ _ (crc_zero second_bit head),
      (
        (head.table, (head.extension, (head.version, (head.number, (head.last, head.body))))),
        refl,
        record {
          front = bytes_of 1 head.table;
          back = bytes_of 2 (head_bits second_bit * 4096 + (9 + length head.body)) ++ inside_bytes head crc;
          parts = refl;
          first = number1_put head.table fits.table;
          second = sized_spelled second_bit head crc fits;
        },
      ),
    )

pub long_again : (second_bit : Bool) (head : LongFields) → Fits head → long_form.of (long_bytes second_bit head) ≡ Some head
long_again second_bit head fits = long_form_exact.again head (long_bytes second_bit head) (long_spelled second_bit head fits)

-- What is written is right, where its table_id is not 0x70.
pub long_right : (second_bit : Bool) (head : LongFields) → Fits head → head.table ≢ 0x70
    → IsRightSection (long_bytes second_bit head)
unfolding long_bytes long_text
long_right second_bit head fits other =
    let few = head_bits_few second_bit in
    let crc = crc_of (long_text second_bit head) in
    let l : length (head.body ++ bytes_of 4 crc) ≡ length head.body + 4 = length-append head.body (bytes_of 4 crc) in
    let low = few.0 in
    let high = few.1 in
    let body = fits.body in
    let len : section_length (long_bytes second_bit head) ≡ 9 + length head.body = omega arith in
    let table : table_id (long_bytes second_bit head) ≡ head.table = let t = fits.table in omega arith in (
      record { head = omega arith; end = omega arith },
      inr (inl (record {
        table = λ e. other (sym table ∙ e);
        long = omega arith;
        least = omega arith;
        most = omega arith;
        current = let v = fits.version in omega arith;
        crc = crc_zero second_bit head;
      })),
    )

pub length-long_bytes : (second_bit : Bool) (head : LongFields) → length (long_bytes second_bit head) ≡ 12 + length head.body
unfolding long_bytes long_text
length-long_bytes second_bit head =
    let l = length-append head.body (bytes_of 4 (crc_of (long_text second_bit head))) in omega arith
