-- The header of a message that is held stands as it was written.
use Rattle.std.proofs.Common.{◌≡◌, ◌⊎◌, inl, inr, ℕ, zero, suc, ◌+◌, ◌-◌, ◌*◌, ◌/◌, ◌<◌, ◌≤◌, List, length, get_or, refl, sym, ap, ◌∙◌, arith}
use Rattle.dsmcc_msg.specs.Control.{DiiFields}
use Rattle.flash_kept.specs.Counts.{listed}
use Rattle.flash_kept.specs.Held.{HasHeldMessage}
use Rattle.flash_kept.specs.Leaving.{HeaderStands}
use Rattle.flash_kept.specs.SpareArea.{IsInOrder, SpareArea, message_place}
use Rattle.flash_kept.proofs.HeaderLaws.{HeaderCounts, counts_of, room_of, text_is, text_len, text_of}
use Rattle.flash_kept.proofs.PairLaws.{byte_of, sum_of}
use Rattle.flash_layout.specs.Journal.{header_spelled, header_written}
use Rattle.flash_layout.specs.Pairs.{paired}
use Rattle.flash_layout.proofs.PairsLemmas.{first-paired, half_cases, second-paired}

length-listed : (f : ℕ → ℕ) (n : ℕ) → length (listed f n) ≡ n
unfolding listed
length-listed f zero = refl
length-listed f (suc n) = ap suc (length-listed (λ k. f (suc k)) n)

get_or-listed : (f : ℕ → ℕ) (n i : ℕ) → i < n → get_or (listed f n) i 0 ≡ f i
unfolding listed
get_or-listed f zero i lt = absurd (omega (arith, lt))
get_or-listed f (suc n) zero lt = refl
get_or-listed f (suc n) (suc i) lt = get_or-listed (λ k. f (suc k)) n i (omega (arith, lt))

-- pairs that sum to 255 are those of their first bytes
pairs_from : (c v : List ℕ) (at n : ℕ) → n ≤ length v → ((i : ℕ) → i < n → byte_of c at i ≡ get_or v i 0) → ((i : ℕ) → i < n → sum_of c at i ≡ 255)
    → (k : ℕ) → k < 2 * n → get_or c (at + k) 0 ≡ get_or (paired v) k 0
pairs_from c v at n fits first sums k lt = pick (k / 2) (omega (arith, lt)) (half_cases k)
  where
    pick : (i : ℕ) → i < n → (k ≡ 2 * i) ⊎ (k ≡ 2 * i + 1) → get_or c (at + k) 0 ≡ get_or (paired v) k 0
    pick i below (inl even) =
        ap (λ (j : ℕ). get_or c (at + j) 0) even ∙ (first i below ∙ (sym (first-paired v i (omega (arith, below, fits))) ∙ ap (λ (j : ℕ). get_or (paired v) j 0) (sym even)))
    pick i below (inr odd) =
        let f = first i below in let s = sums i below in
        let second : get_or c (at + (2 * i + 1)) 0 ≡ 255 - get_or v i 0 = omega (arith, f, s) in
        ap (λ (j : ℕ). get_or c (at + j) 0) odd ∙ (second ∙ (sym (second-paired v i (omega (arith, below, fits))) ∙ ap (λ (j : ℕ). get_or (paired v) j 0) (sym odd)))

module _ (area : SpareArea) (c : List ℕ) (bytes : (k : ℕ) → get_or c k 0 ≤ 255) (counts : HeaderCounts area c) where
  abbrev b : ℕ → ℕ
  b i = byte_of c area.journal i

  byte_le : (i : ℕ) → b i ≤ 255
  byte_le i = bytes (area.journal + 2 * i)

  abbrev v : List ℕ
  v = header_spelled area.next (text_len area c)

  spelled : (i : ℕ) → i < 16 → b i ≡ get_or v i 0
  spelled zero lt = omega (arith, counts.magic, byte_le 0, byte_le 1, byte_le 2, byte_le 3)
  spelled (suc zero) lt = omega (arith, counts.magic, byte_le 0, byte_le 1, byte_le 2, byte_le 3)
  spelled (suc (suc zero)) lt = omega (arith, counts.magic, byte_le 0, byte_le 1, byte_le 2, byte_le 3)
  spelled (suc (suc (suc zero))) lt = omega (arith, counts.magic, byte_le 0, byte_le 1, byte_le 2, byte_le 3)
  spelled (suc (suc (suc (suc zero)))) lt = omega (arith, counts.number, byte_le 4, byte_le 5, byte_le 6, byte_le 7)
  spelled (suc (suc (suc (suc (suc zero))))) lt = omega (arith, counts.number, byte_le 4, byte_le 5, byte_le 6, byte_le 7)
  spelled (suc (suc (suc (suc (suc (suc zero)))))) lt = omega (arith, counts.number, byte_le 4, byte_le 5, byte_le 6, byte_le 7)
  spelled (suc (suc (suc (suc (suc (suc (suc zero))))))) lt = omega (arith, counts.number, byte_le 4, byte_le 5, byte_le 6, byte_le 7)
  spelled (suc (suc (suc (suc (suc (suc (suc (suc zero)))))))) lt = omega (arith, byte_le 8, byte_le 9)
  spelled (suc (suc (suc (suc (suc (suc (suc (suc (suc zero))))))))) lt = omega (arith, byte_le 8, byte_le 9)
  spelled (suc (suc (suc (suc (suc (suc (suc (suc (suc (suc zero)))))))))) lt = counts.zeros 0 (omega arith)
  spelled (suc (suc (suc (suc (suc (suc (suc (suc (suc (suc (suc zero))))))))))) lt = counts.zeros 1 (omega arith)
  spelled (suc (suc (suc (suc (suc (suc (suc (suc (suc (suc (suc (suc zero)))))))))))) lt = counts.zeros 2 (omega arith)
  spelled (suc (suc (suc (suc (suc (suc (suc (suc (suc (suc (suc (suc (suc zero))))))))))))) lt = counts.zeros 3 (omega arith)
  spelled (suc (suc (suc (suc (suc (suc (suc (suc (suc (suc (suc (suc (suc (suc zero)))))))))))))) lt = counts.zeros 4 (omega arith)
  spelled (suc (suc (suc (suc (suc (suc (suc (suc (suc (suc (suc (suc (suc (suc (suc zero))))))))))))))) lt = counts.zeros 5 (omega arith)
  spelled (suc (suc (suc (suc (suc (suc (suc (suc (suc (suc (suc (suc (suc (suc (suc (suc i)))))))))))))))) lt = absurd (omega (arith, lt))

  pub counted_stands : (message : List ℕ) → message ≡ text_of area c → HeaderStands area message c
  counted_stands message is =
      let len : length message ≡ text_len area c = ap (λ (l : List ℕ). length l) is ∙ length-listed (byte_of c (message_place area)) (text_len area c) in
      record {
        fixed = λ k lt. pairs_from c v area.journal 16 (omega arith) spelled counts.whole k (omega (arith, lt)) ∙ ap (λ (n : ℕ). get_or (header_written area.next n) k 0) (sym len);
        pairs = pairs_from c message (message_place area) (length message) (omega arith)
            (λ i lt. sym (ap (λ (l : List ℕ). get_or l i 0) is ∙ get_or-listed (byte_of c (message_place area)) (text_len area c) i (omega (arith, lt, len))))
            (λ i lt. counts.message i (omega (arith, lt, len)));
      }

pub held_stands : (area : SpareArea) (c message : List ℕ) (dii : DiiFields) → IsInOrder area → ((k : ℕ) → get_or c k 0 ≤ 255) → HasHeldMessage area c message dii → HeaderStands area message c
held_stands area c message dii order bytes held =
    let counts = counts_of area c message dii order held in
    counted_stands area c bytes counts message (held.is ∙ text_is area c (room_of area order) counts.few)
