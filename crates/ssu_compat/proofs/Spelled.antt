-- What is written is a spelling of the entries.
use Rattle.std.proofs.Common.{◌≡◌, ℕ, ◌+◌, ◌*◌, ◌≤◌, true, false, eqb, List, [], ◌∷◌, ◌++◌, length, map, refl, arith}
use Rattle.std.specs.List.{flat_map, AllByRecursion}
use Rattle.std.proofs.lemmas.List.{length-map}
use Rattle.std.proofs.lemmas.Bool.{eqb-true}
use Rattle.wire.specs.Number.{bytes_of}
use Rattle.wire.proofs.Numbers.{number1_byte, number2_put, number3_put}
use Rattle.wire.proofs.ItemLaws.{each_put}
use Rattle.ssu_compat.specs.Compat.{inside_entry, entry, entries, compat}
use Rattle.ssu_compat.specs.Written.{entry_of, entry_bytes, Fits, spelling}
use Rattle.ssu_compat.specs.declared.plain.Plain.{Plain}

inside_put : (p : Plain) → Fits p → inside_entry.Spells ((1, (p.oui, (p.model, (p.version, 0)))), []) (1 ∷ bytes_of 3 p.oui ++ bytes_of 2 p.model ++ bytes_of 2 p.version ++ 0 ∷ [])
inside_put p fits = record {
  front = 1 ∷ bytes_of 3 p.oui ++ bytes_of 2 p.model ++ bytes_of 2 p.version ++ 0 ∷ [];
  back = [];
  parts = refl;
  first = record {
    front = 1 ∷ [];
    back = bytes_of 3 p.oui ++ bytes_of 2 p.model ++ bytes_of 2 p.version ++ 0 ∷ [];
    parts = refl;
    first = number1_byte 1;
    second = record {
      front = bytes_of 3 p.oui;
      back = bytes_of 2 p.model ++ bytes_of 2 p.version ++ 0 ∷ [];
      parts = refl;
      first = number3_put p.oui fits.oui;
      second = record {
        front = bytes_of 2 p.model;
        back = bytes_of 2 p.version ++ 0 ∷ [];
        parts = refl;
        first = number2_put p.model fits.model;
        second = record {
          front = bytes_of 2 p.version;
          back = 0 ∷ [];
          parts = refl;
          first = number2_put p.version fits.version;
          second = number1_byte 0;
        };
      };
    };
  };
  second = (refl, [], (refl, refl));
}

entry_put : (p : Plain) → Fits p → entry.Spells (entry_of p) (entry_bytes p)
unfolding entry
entry_put p fits = (
  (p.kind, ((1, (p.oui, (p.model, (p.version, 0)))), [])),
  refl,
  record {
    front = p.kind ∷ [];
    back = 9 ∷ 1 ∷ bytes_of 3 p.oui ++ bytes_of 2 p.model ++ bytes_of 2 p.version ++ 0 ∷ [];
    parts = refl;
    first = number1_byte p.kind;
    second = record {
      front = 9 ∷ [];
      inside = 1 ∷ bytes_of 3 p.oui ++ bytes_of 2 p.model ++ bytes_of 2 p.version ++ 0 ∷ [];
      parts = refl;
      len = number1_byte 9;
      filled = inside_put p fits;
    };
  },
)

length-entries : (ps : List Plain) → length (flat_map entry_bytes ps) ≡ 11 * length ps
length-entries [] = refl
length-entries (p ∷ ps) = omega (arith, length-entries ps)

all_put : (ps : List Plain) → AllByRecursion Fits ps → AllByRecursion (λ p. entry.Spells (entry_of p) (entry_bytes p)) ps
all_put [] fits = tt
all_put (p ∷ ps) fits = (entry_put p fits.0, all_put ps fits.1)

compat_put : (ps : List Plain) → length ps ≤ 256 → AllByRecursion Fits ps → compat.Spells (map entry_of ps) (spelling ps)
unfolding compat entries spelling
compat_put [] few fits = record { front = bytes_of 2 0; inside = []; parts = refl; len = number2_put 0 (omega arith); filled = refl }
compat_put (p ∷ ps) few fits =
    let all = p ∷ ps in
    let n = length all in
    let len : length (bytes_of 2 n ++ flat_map entry_bytes all) ≡ 2 + 11 * n = omega (arith, length-entries all) in
    record {
      front = bytes_of 2 (2 + 11 * n);
      inside = bytes_of 2 n ++ flat_map entry_bytes all;
      parts = refl;
      len = rw len (number2_put (2 + 11 * n) (omega arith));
      filled = (
        (n, map entry_of all),
        refl,
        record {
          front = bytes_of 2 n;
          back = flat_map entry_bytes all;
          parts = refl;
          first = number2_put n (omega arith);
          second = (length-map all entry_of, each_put entry.Spells entry_of entry_bytes all (all_put all fits));
        },
      );
    }

pub is_read_back : (ps : List Plain) (out : List ℕ) → length ps ≤ 256 → AllByRecursion Fits ps → out ≡ spelling ps → compat.Spells (map entry_of ps) out
is_read_back ps out few fits e = rw e (compat_put ps few fits)

-- where there is an entry
pub spelling-some : (ps : List Plain) → eqb (length ps) 0 ≡ false → spelling ps ≡ bytes_of 2 (2 + 11 * length ps) ++ bytes_of 2 (length ps) ++ flat_map entry_bytes ps
unfolding spelling
spelling-some [] e = absurd cc
spelling-some (p ∷ ps) e = refl

pub spelling-none : (ps : List Plain) → eqb (length ps) 0 ≡ true → spelling ps ≡ bytes_of 2 0
unfolding spelling
spelling-none [] e = refl
spelling-none (p ∷ ps) e = absurd (omega (arith, eqb-true _ _ e))

pub none_fit : (ps : List Plain) → eqb (length ps) 0 ≡ true → AllByRecursion Fits ps
none_fit [] e = tt
none_fit (p ∷ ps) e = absurd (omega (arith, eqb-true _ _ e))
