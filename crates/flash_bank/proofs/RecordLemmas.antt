-- The bytes of a record.
use Rattle.std.proofs.Common.{◌≡◌, ◌⊎◌, ⊎_elim, ℕ, zero, suc, ◌+◌, ◌-◌, ◌^◌, ◌<◌, ◌≤◌, get_or, refl, sym, ◌∙◌, ap, subst, arith}
use Rattle.flash_layout.specs.Pairs.{AreWhole, byte_at, half_at, word_at}
use Rattle.flash_bank.specs.Record.{IsValid, layout_of, record_of, spelled, written}
use Rattle.flash_bank.specs.declared.record.Record.{Record}
use Rattle.flash_layout.proofs.PairsLemmas.{byte_of, first-paired, whole-paired}

module _ (r : Record) (layout : (r.layout ≡ 1) ⊎ (r.layout ≡ 2)) (number : r.number < 2 ^ 32) (bank : r.bank < 256) (len : r.length < 2 ^ 32) (model : r.software.model < 2 ^ 16)
    (version : r.software.version < 2 ^ 16) (group : r.group < 2 ^ 32) where
  few_layouts : r.layout ≤ 2
  few_layouts = ⊎_elim (λ is. omega (arith, is)) (λ is. omega (arith, is)) layout

  spelled_fits : (i : ℕ) → i < 32 → get_or (spelled r) i 0 ≤ 255
  spelled_fits i lt = byte_of (spelled r) (
    omega arith,
    (
      omega arith,
      (
        omega arith,
        (
          omega (arith, few_layouts),
          (
            omega arith,
            (
              omega arith,
              (
                omega arith,
                (
                  omega arith,
                  (
                    omega arith,
                    (
                      omega arith,
                      (
                        omega arith,
                        (
                          omega arith,
                          (
                            omega arith,
                            (
                              omega arith,
                              (
                                omega arith,
                                (
                                  omega arith,
                                  (
                                    omega arith,
                                    (
                                      omega arith,
                                      (
                                        omega arith,
                                        (
                                          omega arith,
                                          (
                                            omega arith,
                                            (
                                              omega arith,
                                              (
                                                omega arith,
                                                (
                                                  omega arith,
                                                  (omega arith, (omega arith, (omega arith, (omega arith, (omega arith, (omega arith, (omega arith, (omega arith, tt)))))))),
                                                ),
                                              ),
                                            ),
                                          ),
                                        ),
                                      ),
                                    ),
                                  ),
                                ),
                              ),
                            ),
                          ),
                        ),
                      ),
                    ),
                  ),
                ),
              ),
            ),
          ),
        ),
      ),
    ),
  ) i

  zero_after_bank : (i : ℕ) → i < 3 → get_or (spelled r) (9 + i) 0 ≡ 0
  zero_after_bank zero lt = refl
  zero_after_bank (suc zero) lt = refl
  zero_after_bank (suc (suc zero)) lt = refl
  zero_after_bank (suc (suc (suc i))) lt = absurd (omega arith)

  zero_after_group : (i : ℕ) → i < 8 → get_or (spelled r) (24 + i) 0 ≡ 0
  zero_after_group zero lt = refl
  zero_after_group (suc zero) lt = refl
  zero_after_group (suc (suc zero)) lt = refl
  zero_after_group (suc (suc (suc zero))) lt = refl
  zero_after_group (suc (suc (suc (suc zero)))) lt = refl
  zero_after_group (suc (suc (suc (suc (suc zero))))) lt = refl
  zero_after_group (suc (suc (suc (suc (suc (suc zero)))))) lt = refl
  zero_after_group (suc (suc (suc (suc (suc (suc (suc zero))))))) lt = refl
  zero_after_group (suc (suc (suc (suc (suc (suc (suc (suc i)))))))) lt = absurd (omega arith)

  pub whole-written : AreWhole (written r) 32
  whole-written = whole-paired (spelled r) spelled_fits

  -- a record is read back from its bytes
  magic-written : word_at (written r) 0 ≡ 0x53535530 + r.layout
  magic-written = omega arith

  layout-written : layout_of (word_at (written r) 0) ≡ r.layout
  layout-written = ap layout_of magic-written ∙ ⊎_elim (λ is. ap (λ (l : ℕ). layout_of (0x53535530 + l)) is ∙ sym is) (λ is. ap (λ (l : ℕ). layout_of (0x53535530 + l)) is ∙ sym is) layout

  pub record_of-written : record_of (written r) ≡ r
  record_of-written =
      let y : layout_of (word_at (written r) 0) ≡ r.layout = layout-written in
      let n : word_at (written r) 4 ≡ r.number = omega arith in
      let l : word_at (written r) 12 ≡ r.length = omega arith in
      let m : half_at (written r) 16 ≡ r.software.model = omega arith in
      let v : half_at (written r) 18 ≡ r.software.version = omega arith in
      let g : word_at (written r) 20 ≡ r.group = omega arith in
      (λ i. record { layout = y i; number = n i; bank = r.bank; length = l i; software = record { model = m i; version = v i }; group = g i })

  pub valid-written : (Allows : ℕ → ℕ → ℕ → Type 0) → Allows (0x53535530 + r.layout) r.bank r.length → IsValid Allows (written r)
  valid-written Allows allowed = record {
    whole = whole-written;
    after_bank = λ i from to. let spot : 9 + (i - 9) ≡ i = omega arith in first-paired (spelled r) i (omega arith) ∙ (ap (λ (k : ℕ). get_or (spelled r) k 0) (sym spot) ∙ zero_after_bank (i - 9) (omega arith));
    after_group = λ i from to. let spot : 24 + (i - 24) ≡ i = omega arith in first-paired (spelled r) i (omega arith) ∙ (ap (λ (k : ℕ). get_or (spelled r) k 0) (sym spot) ∙ zero_after_group (i - 24) (omega arith));
    allowed = let l : word_at (written r) 12 ≡ r.length = omega arith in
        subst (λ (m : ℕ). Allows m (byte_at (written r) 8) (word_at (written r) 12)) (sym magic-written) (subst (λ (n : ℕ). Allows (0x53535530 + r.layout) r.bank n) (sym l) allowed);
  }
