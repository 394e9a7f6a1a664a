-- What the tables hold, entry by entry, computed from the definition of the register.
use Rattle.std.proofs.Common.{◌≡◌, ℕ, zero, suc, ◌+◌, ◌<◌, ◌&&◌, ◌==◌, Bool, true, false, List, [], ◌∷◌, length, get_or, refl, ap, ◌∙◌, arith, eqb-true}
use Rattle.std.proofs.lemmas.Bool.{false≢true}
use Rattle.ts_crc.specs.Crc.{after_bit, after_byte, lane}
use Rattle.ts_crc.specs.declared.tables.TheConstants.{TABLE_0, TABLE_1, TABLE_2, TABLE_3, TABLE_4, TABLE_5, TABLE_6, TABLE_7}
use Rattle.ts_crc.specs.declared.later_tables.TheConstants.{TABLE_8, TABLE_9, TABLE_10, TABLE_11, TABLE_12, TABLE_13, TABLE_14, TABLE_15}

-- a table of what the register holds after each byte in turn
is_first_table : ℕ → List ℕ → Bool
is_first_table byte [] = true
is_first_table byte (x ∷ xs) = (x == after_byte 0 byte) && is_first_table (suc byte) xs

-- a table of what the register holds after one more byte 0 than in another table
is_next_table : List ℕ → List ℕ → Bool
is_next_table xs [] = true
is_next_table [] (y ∷ ys) = false
is_next_table (x ∷ xs) (y ∷ ys) = (y == after_byte x 0) && is_next_table xs ys

first_true : (a b : Bool) → a && b ≡ true → a ≡ true
first_true true b e = refl
first_true false b e = e

second_true : (a b : Bool) → a && b ≡ true → b ≡ true
second_true true b e = e
second_true false b e = absurd (false≢true e)

first-at : (byte : ℕ) (xs : List ℕ) (k : ℕ) → is_first_table byte xs ≡ true → k < length xs
    → get_or xs k 0 ≡ after_byte 0 (byte + k)
unfolding is_first_table
first-at byte [] k e h = absurd (omega arith)
first-at byte (x ∷ xs) zero e h =
    eqb-true _ _ (first_true (x == after_byte 0 byte) (is_first_table (suc byte) xs) e) ∙ ap (after_byte 0) (omega arith)
first-at byte (x ∷ xs) (suc k) e h =
    first-at (suc byte) xs k (second_true (x == after_byte 0 byte) (is_first_table (suc byte) xs) e) (omega arith)
    ∙ ap (after_byte 0) (omega arith)

next-at : (xs ys : List ℕ) (k : ℕ) → is_next_table xs ys ≡ true → k < length ys
    → get_or ys k 0 ≡ after_byte (get_or xs k 0) 0
unfolding is_next_table
next-at xs [] k e h = absurd (omega arith)
next-at [] (y ∷ ys) k e h = absurd (false≢true e)
next-at (x ∷ xs) (y ∷ ys) zero e h =
    eqb-true _ _ (first_true (y == after_byte x 0) (is_next_table xs ys) e)
next-at (x ∷ xs) (y ∷ ys) (suc k) e h =
    next-at xs ys k (second_true (y == after_byte x 0) (is_next_table xs ys) e) (omega arith)

is_table_0 : is_first_table 0 TABLE_0 ≡ true
unfolding is_first_table after_byte after_bit
is_table_0 = refl

is_table_1 : is_next_table TABLE_0 TABLE_1 ≡ true
unfolding is_next_table after_byte after_bit
is_table_1 = refl

is_table_2 : is_next_table TABLE_1 TABLE_2 ≡ true
unfolding is_next_table after_byte after_bit
is_table_2 = refl

is_table_3 : is_next_table TABLE_2 TABLE_3 ≡ true
unfolding is_next_table after_byte after_bit
is_table_3 = refl

is_table_4 : is_next_table TABLE_3 TABLE_4 ≡ true
unfolding is_next_table after_byte after_bit
is_table_4 = refl

is_table_5 : is_next_table TABLE_4 TABLE_5 ≡ true
unfolding is_next_table after_byte after_bit
is_table_5 = refl

is_table_6 : is_next_table TABLE_5 TABLE_6 ≡ true
unfolding is_next_table after_byte after_bit
is_table_6 = refl

is_table_7 : is_next_table TABLE_6 TABLE_7 ≡ true
unfolding is_next_table after_byte after_bit
is_table_7 = refl

is_table_8 : is_next_table TABLE_7 TABLE_8 ≡ true
unfolding is_next_table after_byte after_bit
is_table_8 = refl

is_table_9 : is_next_table TABLE_8 TABLE_9 ≡ true
unfolding is_next_table after_byte after_bit
is_table_9 = refl

is_table_10 : is_next_table TABLE_9 TABLE_10 ≡ true
unfolding is_next_table after_byte after_bit
is_table_10 = refl

is_table_11 : is_next_table TABLE_10 TABLE_11 ≡ true
unfolding is_next_table after_byte after_bit
is_table_11 = refl

is_table_12 : is_next_table TABLE_11 TABLE_12 ≡ true
unfolding is_next_table after_byte after_bit
is_table_12 = refl

is_table_13 : is_next_table TABLE_12 TABLE_13 ≡ true
unfolding is_next_table after_byte after_bit
is_table_13 = refl

is_table_14 : is_next_table TABLE_13 TABLE_14 ≡ true
unfolding is_next_table after_byte after_bit
is_table_14 = refl

is_table_15 : is_next_table TABLE_14 TABLE_15 ≡ true
unfolding is_next_table after_byte after_bit
is_table_15 = refl

-- a longer lane by one
next-lane : (many byte : ℕ) (xs ys : List ℕ) → is_next_table xs ys ≡ true → byte < length ys
    → get_or xs byte 0 ≡ lane many byte → get_or ys byte 0 ≡ lane (suc many) byte
unfolding lane
next-lane many byte xs ys e h is = next-at xs ys byte e h ∙ ap (λ r. after_byte r 0) is

pub entry_0 : (byte : ℕ) → byte < 256 → get_or TABLE_0 byte 0 ≡ lane 0 byte
unfolding lane
entry_0 byte h = first-at 0 TABLE_0 byte is_table_0 h ∙ ap (after_byte 0) (omega arith)

pub entry_1 : (byte : ℕ) → byte < 256 → get_or TABLE_1 byte 0 ≡ lane 1 byte
entry_1 byte h = next-lane 0 byte TABLE_0 TABLE_1 is_table_1 h (entry_0 byte h)

pub entry_2 : (byte : ℕ) → byte < 256 → get_or TABLE_2 byte 0 ≡ lane 2 byte
entry_2 byte h = next-lane 1 byte TABLE_1 TABLE_2 is_table_2 h (entry_1 byte h)

pub entry_3 : (byte : ℕ) → byte < 256 → get_or TABLE_3 byte 0 ≡ lane 3 byte
entry_3 byte h = next-lane 2 byte TABLE_2 TABLE_3 is_table_3 h (entry_2 byte h)

pub entry_4 : (byte : ℕ) → byte < 256 → get_or TABLE_4 byte 0 ≡ lane 4 byte
entry_4 byte h = next-lane 3 byte TABLE_3 TABLE_4 is_table_4 h (entry_3 byte h)

pub entry_5 : (byte : ℕ) → byte < 256 → get_or TABLE_5 byte 0 ≡ lane 5 byte
entry_5 byte h = next-lane 4 byte TABLE_4 TABLE_5 is_table_5 h (entry_4 byte h)

pub entry_6 : (byte : ℕ) → byte < 256 → get_or TABLE_6 byte 0 ≡ lane 6 byte
entry_6 byte h = next-lane 5 byte TABLE_5 TABLE_6 is_table_6 h (entry_5 byte h)

pub entry_7 : (byte : ℕ) → byte < 256 → get_or TABLE_7 byte 0 ≡ lane 7 byte
entry_7 byte h = next-lane 6 byte TABLE_6 TABLE_7 is_table_7 h (entry_6 byte h)

pub entry_8 : (byte : ℕ) → byte < 256 → get_or TABLE_8 byte 0 ≡ lane 8 byte
entry_8 byte h = next-lane 7 byte TABLE_7 TABLE_8 is_table_8 h (entry_7 byte h)

pub entry_9 : (byte : ℕ) → byte < 256 → get_or TABLE_9 byte 0 ≡ lane 9 byte
entry_9 byte h = next-lane 8 byte TABLE_8 TABLE_9 is_table_9 h (entry_8 byte h)

pub entry_10 : (byte : ℕ) → byte < 256 → get_or TABLE_10 byte 0 ≡ lane 10 byte
entry_10 byte h = next-lane 9 byte TABLE_9 TABLE_10 is_table_10 h (entry_9 byte h)

pub entry_11 : (byte : ℕ) → byte < 256 → get_or TABLE_11 byte 0 ≡ lane 11 byte
entry_11 byte h = next-lane 10 byte TABLE_10 TABLE_11 is_table_11 h (entry_10 byte h)

pub entry_12 : (byte : ℕ) → byte < 256 → get_or TABLE_12 byte 0 ≡ lane 12 byte
entry_12 byte h = next-lane 11 byte TABLE_11 TABLE_12 is_table_12 h (entry_11 byte h)

pub entry_13 : (byte : ℕ) → byte < 256 → get_or TABLE_13 byte 0 ≡ lane 13 byte
entry_13 byte h = next-lane 12 byte TABLE_12 TABLE_13 is_table_13 h (entry_12 byte h)

pub entry_14 : (byte : ℕ) → byte < 256 → get_or TABLE_14 byte 0 ≡ lane 14 byte
entry_14 byte h = next-lane 13 byte TABLE_13 TABLE_14 is_table_14 h (entry_13 byte h)

pub entry_15 : (byte : ℕ) → byte < 256 → get_or TABLE_15 byte 0 ≡ lane 15 byte
entry_15 byte h = next-lane 14 byte TABLE_14 TABLE_15 is_table_15 h (entry_14 byte h)
