-- Packets and their bytes.
use Rattle.std.proofs.Common.{◌≡◌, ℕ, zero, suc, ◌+◌, ◌-◌, ◌*◌, ◌≤◌, List, [], ◌∷◌, ◌++◌, length, set, get_or, take, replicate, ap, ◌∙◌, arith, length-append}
use Rattle.std.specs.List.{All, concat, fold}
use Rattle.std.proofs.lemmas.List.{length-set}
use Rattle.std.proofs.lemmas.List.Elements.{All-append, All-cons, All-head, All-nil, All-replicate, All-tail}
use Rattle.air_channel.specs.Aired.{aired, copies, exchanged, placed, with_change, written}
use Rattle.air_channel.specs.Scripts.{ScriptData}
use Rattle.air_channel.specs.declared.change.Change.{Change}
use Rattle.ts_input.specs.Packets.{packets}
use Rattle.ts_input.proofs.PacketLemmas.{packets_append, packets_of_one, packets_of_rest}

abbrev pub IsPacketLong : List ℕ → Type 0
IsPacketLong p = length p ≡ 188

-- ---- the packets of the bytes of packets

pub packets_back : (ps : List (List ℕ)) → All IsPacketLong ps → packets (concat ps) ≡ ps
packets_back [] all = packets_of_rest [] (omega arith)
packets_back (p ∷ ps) all =
    let one : length p ≡ 188 = All-head IsPacketLong p ps all in
    packets_append p (concat ps) 1 (omega arith)
    ∙ ap (λ (qs : List (List ℕ)). qs ++ packets (concat ps)) (packets_of_one p one)
    ∙ ap (λ (qs : List (List ℕ)). p ∷ qs) (packets_back ps (All-tail IsPacketLong p ps all))

pub bytes_long : (ps : List (List ℕ)) → All IsPacketLong ps → length (concat ps) ≡ 188 * length ps
bytes_long [] all = omega arith
bytes_long (p ∷ ps) all =
    let one : length p ≡ 188 = All-head IsPacketLong p ps all in
    let l = length-append p (concat ps) in
    let later = bytes_long ps (All-tail IsPacketLong p ps all) in
    omega arith

-- ---- the script leaves the length of each packet

abbrev put : Change → List ℕ → List ℕ
put change p = set p change.offset change.byte

put_long : (change : Change) (ps : List (List ℕ)) (n : ℕ) → All IsPacketLong ps → All IsPacketLong (set ps n (put change (get_or ps n [])))
put_long change [] n all = all
put_long change (p ∷ ps) zero all =
    All-cons IsPacketLong (put change p) ps (length-set p change.offset change.byte ∙ All-head IsPacketLong p ps all) (All-tail IsPacketLong p ps all)
put_long change (p ∷ ps) (suc n) all =
    All-cons IsPacketLong p (set ps n (put change (get_or ps n []))) (All-head IsPacketLong p ps all) (put_long change ps n (All-tail IsPacketLong p ps all))

change_long : (ps : List (List ℕ)) (change : Change) → All IsPacketLong ps → All IsPacketLong (with_change ps change)
change_long ps change all = put_long change ps change.packet all

changes_long : (changes : List Change) (ps : List (List ℕ)) → All IsPacketLong ps → All IsPacketLong (fold with_change ps changes)
changes_long [] ps all = all
changes_long (change ∷ changes) ps all = changes_long changes (with_change ps change) (change_long ps change all)

exchange_long : (n : ℕ) (ps : List (List ℕ)) → All IsPacketLong ps → All IsPacketLong (exchanged ps n)
exchange_long n [] all = all
exchange_long zero (first ∷ []) all = all
exchange_long zero (first ∷ second ∷ rest) all =
    let behind = All-tail IsPacketLong first (second ∷ rest) all in
    All-cons IsPacketLong second (first ∷ rest) (All-head IsPacketLong second rest behind)
    (All-cons IsPacketLong first rest (All-head IsPacketLong first (second ∷ rest) all) (All-tail IsPacketLong second rest behind))
exchange_long (suc n) (first ∷ rest) all =
    All-cons IsPacketLong first (exchanged rest n) (All-head IsPacketLong first rest all) (exchange_long n rest (All-tail IsPacketLong first rest all))

exchanges_long : (swaps : List ℕ) (ps : List (List ℕ)) → All IsPacketLong ps → All IsPacketLong (fold exchanged ps swaps)
exchanges_long [] ps all = all
exchanges_long (n ∷ swaps) ps all = exchanges_long swaps (exchanged ps n) (exchange_long n ps all)

written_long : (script : ScriptData) (first : ℕ) (ps : List (List ℕ)) → All IsPacketLong ps → All IsPacketLong (written script first ps)
written_long script first [] all = All-nil IsPacketLong
written_long script first (p ∷ ps) all =
    All-append IsPacketLong (replicate (copies script first) p) (written script (first + 1) ps)
    (All-replicate IsPacketLong (copies script first) p (All-head IsPacketLong p ps all))
    (written_long script (first + 1) ps (All-tail IsPacketLong p ps all))

pub aired_long : (script : ScriptData) (ps : List (List ℕ)) → All IsPacketLong ps → All IsPacketLong (aired script ps)
unfolding aired
aired_long script ps all = written_long script 0 (placed script ps) (exchanges_long script.swaps (fold with_change ps script.changes) (changes_long script.changes ps all))

-- ---- fronts

pub front_long : (front back : List (List ℕ)) → All IsPacketLong (front ++ back) → All IsPacketLong front
front_long [] back all = All-nil IsPacketLong
front_long (p ∷ front) back all =
    All-cons IsPacketLong p front (All-head IsPacketLong p (front ++ back) all) (front_long front back (All-tail IsPacketLong p (front ++ back) all))

-- the first packets are those of a front with more behind it
pub take_of_front : (n : ℕ) (front back : List (List ℕ)) → length front ≤ n → take n (front ++ back) ≡ front ++ take (n - length front) back
take_of_front n [] back h = let e : n ≡ n - 0 = omega arith in ap (λ (k : ℕ). take k back) e
take_of_front zero (p ∷ front) back h = absurd (omega arith)
take_of_front (suc n) (p ∷ front) back h =
    let e : n - length front ≡ suc n - suc (length front) = omega arith in
    ap (λ (qs : List (List ℕ)). p ∷ qs) (take_of_front n front back (omega arith) ∙ ap (λ (k : ℕ). front ++ take k back) e)
