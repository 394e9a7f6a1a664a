-- What a replay of the packets of a broadcast comes to.
use Rattle.std.proofs.Common.{◌≡◌, ◌⊎◌, inl, inr, ℕ, ◌+◌, ◌-◌, ◌*◌, ◌<◌, ◌≤◌, Bool, true, List, [], ◌∷◌, ◌++◌, length, take, drop, Some, refl, sym, ap, subst, ◌∙◌, arith, append_assoc, append-nil, length-append}
use Rattle.std.specs.Prelude.{reverse}
use Rattle.std.specs.List.{All, concat}
use Rattle.std.proofs.lemmas.List.{length-drop, length-take, take-append-drop}
use Rattle.std.proofs.lemmas.List.Folds.{concat-append}
use Rattle.broadcast.specs.Broadcasts.{Came, IsBrokenAt, IsDecided, IsHeadAfter, IsLeft, IsSeenAt, IsSeenOver}
use Rattle.broadcast.specs.Packets.{Broadcast, IsFront, IsInstalledFrom, aired_packets, heard_over, packets_taken, sent_packets, up_to_packet}
use Rattle.broadcast.proofs.PacketLaws.{IsPacketLong, aired_long, bytes_long, front_long, packets_back, take_of_front}
use Rattle.broadcast.proofs.PlannedLaws.{OpensEmpty, planned_group}
use Rattle.broadcast_laws.specs.Planned.{IsSent}
use Rattle.flash_layout.specs.Layout.{Geometry}
use Rattle.flash_bank.specs.Leaving.{KeepsBoot}
use Rattle.flash_bank.specs.Sound.{Boot, BootOf}
use Rattle.flash_bank.specs.declared.record.Record.{Record}
use Rattle.flash_bank.proofs.SoundLemmas.{one_boot}
use Rattle.flash_stage.specs.Keeping.{StagesNone}
use Rattle.route_tables.specs.Values.{Receiver}
use Rattle.ssu_answer.specs.declared.chosen.Chosen.{Chosen}
use Rattle.ssu_loader.specs.Decisions.{Decision, IsOpen, Reaches, TooMany, Whole, Wrong}
use Rattle.ssu_loader.specs.Replays.{BreaksAtPacket, ComesSeen, EndsWith, HearsAtPacket, HearsToEnd, ReachesNone, ReplayLeaves, TakesAndInstalls, heard_in}
use Rattle.ssu_loader.specs.Verdicts.{IsLastSeen, IsSeen, IsUndecided}
use Rattle.ssu_answer.specs.declared.verdict.Verdict.{Verdict}
use Rattle.ssu_answer.specs.declared.verdict.Verdict.TheVariants.{BadModule, Incomplete, Installed, Nothing, Unsettled}
use Rattle.ssu_loader.proofs.FrontLaws.{front_reaches}
use Rattle.ssu_route.specs.Queries.{heard_by}
use Rattle.ts_input.specs.Packets.{IsOneMore, most_packets, packets}
use Rattle.ts_input.proofs.PacketLemmas.{length_packets, packets_append, packets_end, packets_more}
use Rattle.ts_section.specs.Events.{Heard}

-- What is known of a broadcast: its packets have 188 bytes, and its plan is one that is sent.
pub record IsOnAir (b : Broadcast) : Type 0 where
  pub sent : IsSent b.plan b.images
  pub long : All IsPacketLong (sent_packets b)

abbrev pub bytes_of_air : Broadcast → List ℕ
bytes_of_air b = concat (aired_packets b)

pub all_long : (b : Broadcast) → IsOnAir b → All IsPacketLong (aired_packets b)
unfolding aired_packets
all_long b air = aired_long b.script (sent_packets b) air.long

air_packets : (b : Broadcast) → IsOnAir b → packets (bytes_of_air b) ≡ aired_packets b
air_packets b air = packets_back (aired_packets b) (all_long b air)

-- ---- what is heard in bytes is what is heard in their packets

heard_bytes : (me : Receiver) (bytes : List ℕ) (ps : List (List ℕ)) → packets bytes ≡ ps → heard_in me bytes ≡ heard_over me ps
unfolding heard_in
heard_bytes me bytes ps e = ap (λ (qs : List (List ℕ)). heard_by me (reverse qs)) e

reaches_more : (me : Receiver) (front back : List (List ℕ)) (d : Decision) → All IsPacketLong (front ++ back) → Reaches me (heard_over me front) d → Reaches me (heard_over me (front ++ back)) d
reaches_more me front back d long reached =
    let own = packets_back front (front_long front back long) in
    let whole : packets (concat front ++ concat back) ≡ front ++ back = ap packets (sym (concat-append front back)) ∙ packets_back (front ++ back) long in
    let start = subst (λ (h : List Heard). Reaches me h d) (sym (heard_bytes me (concat front) front own)) reached in
    subst (λ (h : List Heard). Reaches me h d) (heard_bytes me (concat front ++ concat back) (front ++ back) whole) (front_reaches me (concat front) (concat back) d start)

-- ---- up to a packet

-- The bytes taken are the packets up to one of the broadcast's.
pub record IsUpTo (b : Broadcast) (me : Receiver) (Now Before : List Heard → Type 0) : Type 0 where
  pub front : IsFront b
  pub now : Now (heard_over me (up_to_packet front))
  pub earlier : Before (heard_over me front.before)

pub up_to : (b : Broadcast) (me : Receiver) (rest : List ℕ) (Now Before : List Heard → Type 0) → IsOnAir b → HearsAtPacket me (Some (bytes_of_air b)) (Some rest) Now Before → IsUpTo b me Now Before
up_to b me rest Now Before air h =
    let taken : packets (h.earlier ++ h.packet) ≡ packets h.earlier ++ h.packet ∷ [] = packets_more h.earlier h.packet h.count h.whole h.one in
    let size : length (h.earlier ++ h.packet) ≡ 188 * (h.count + 1) = let l = length-append h.earlier h.packet in let a = h.whole in let c = h.one in omega arith in
    let takes : bytes_of_air b ≡ (h.earlier ++ h.packet) ++ rest = h.takes in
    let count = length_packets h.earlier in
    let whole = h.whole in
    let few = h.within in
    record {
      front = record {
        before = packets h.earlier;
        packet = h.packet;
        behind = packets rest;
        parts = sym (air_packets b air) ∙ ap packets takes ∙ packets_append (h.earlier ++ h.packet) rest (h.count + 1) size
            ∙ ap (λ (ps : List (List ℕ)). ps ++ packets rest) taken ∙ append_assoc (packets h.earlier) (h.packet ∷ []) (packets rest);
        within = omega arith;
      };
      now = subst Now (heard_bytes me (h.earlier ++ h.packet) (packets h.earlier ++ h.packet ∷ []) taken) h.now;
      earlier = subst Before (heard_bytes me h.earlier (packets h.earlier) refl) h.before;
    }

-- what is decided there is decided by all packets, and by those that a box takes
record IsSettled (b : Broadcast) (me : Receiver) (d : Decision) : Type 0 where
  pub all : Reaches me (heard_over me (aired_packets b)) d
  pub out : IsDecided me (packets_taken b)

settled : (b : Broadcast) (me : Receiver) (before : List (List ℕ)) (packet : List ℕ) (behind : List (List ℕ)) (d : Decision) → IsOnAir b → aired_packets b ≡ before ++ packet ∷ behind
    → length before < most_packets → Reaches me (heard_over me (before ++ packet ∷ [])) d → IsSettled b me d
settled b me before packet behind d air parts within reached =
    let front = before ++ packet ∷ [] in
    let split : aired_packets b ≡ front ++ behind = parts ∙ sym (append_assoc before (packet ∷ []) behind) in
    let size : length front ≤ most_packets = let l = length-append before (packet ∷ []) in omega arith in
    let long : All IsPacketLong (front ++ behind) = subst (λ (ps : List (List ℕ)). All IsPacketLong ps) split (all_long b air) in
    let kept = take (most_packets - length front) behind in
    let taken : packets_taken b ≡ front ++ kept = ap (take most_packets) split ∙ take_of_front most_packets front behind size in
    let parted : (front ++ kept) ++ drop (most_packets - length front) behind ≡ front ++ behind =
    append_assoc front kept (drop (most_packets - length front) behind) ∙ ap (λ (ps : List (List ℕ)). front ++ ps) (take-append-drop (most_packets - length front) behind) in
    let short : All IsPacketLong (front ++ kept) = front_long (front ++ kept) (drop (most_packets - length front) behind) (subst (λ (ps : List (List ℕ)). All IsPacketLong ps) (sym parted) long) in
    record {
      all = subst (λ (ps : List (List ℕ)). Reaches me (heard_over me ps) d) (sym split) (reaches_more me front behind d long reached);
      out = record {
        decision = d;
        reached = subst (λ (ps : List (List ℕ)). Reaches me (heard_over me ps) d) (sym taken) (reaches_more me front kept d short reached);
      };
    }

settled_at : (b : Broadcast) (me : Receiver) (Before : List Heard → Type 0) (d : Decision) → IsOnAir b → IsUpTo b me (λ h. Reaches me h d) Before → IsSettled b me d
settled_at b me Before d air u = settled b me u.front.before u.front.packet u.front.behind d air u.front.parts u.front.within u.now

-- ---- what is installed

pub installed : (b : Broadcast) (me : Receiver) (rest : List ℕ) (g : Geometry) (former : Boot) (x y : List ℕ) (chosen : Chosen) → (StagesNone g x → OpensEmpty me) → IsOnAir b → BootOf g x former
    → TakesAndInstalls me (Some (bytes_of_air b)) (Some rest) g x y chosen → IsInstalledFrom b me g former.head x y chosen
installed b me rest g former x y chosen opens air boots t =
    let u = up_to b me rest (λ h. Reaches me h (Whole chosen t.image)) (IsOpen me) air t.hears in
    record {
      image = t.image;
      front = u.front;
      reached = u.now;
      undecided = u.earlier;
      installs = t.installs former boots;
      planned = λ unspoilt none. planned_group b me (up_to_packet u.front) u.front.behind chosen t.image air.sent
          (u.front.parts ∙ sym (append_assoc u.front.before (u.front.packet ∷ []) u.front.behind)) (opens none) u.now unspoilt;
    }

pub left_so : (b : Broadcast) (me : Receiver) (rest : List ℕ) (g : Geometry) (former : Boot) (x y : List ℕ) → (StagesNone g x → OpensEmpty me) → IsOnAir b → BootOf g x former
    → ReplayLeaves me (Some (bytes_of_air b)) (Some rest) g x y → KeepsBoot g x y ⊎ ((chosen : Chosen) × IsInstalledFrom b me g former.head x y chosen)
left_so b me rest g former x y opens air boots left = elim left [
  | inl keeps ↦ inl keeps
  | inr t ↦ inr (t.0, installed b me rest g former x y t.0 opens air boots t.1)
]

-- ---- to the end

record IsToEnd (b : Broadcast) (me : Receiver) (Now : List Heard → Type 0) : Type 0 where
  pub now : Now (heard_over me (aired_packets b))
  pub few : length (aired_packets b) ≤ most_packets

to_end : (b : Broadcast) (me : Receiver) (rest : List ℕ) (Now : List Heard → Type 0) → IsOnAir b → HearsToEnd me (Some (bytes_of_air b)) (Some rest) Now → IsToEnd b me Now
to_end b me rest Now air h =
    let none : rest ≡ [] = h.end in
    let all : bytes_of_air b ≡ h.hears.taken = h.hears.takes ∙ ap (λ (r : List ℕ). h.hears.taken ++ r) none ∙ append-nil h.hears.taken in
    let size : length h.hears.taken ≤ 188 * most_packets = h.hears.bytes in
    let long = bytes_long (aired_packets b) (all_long b air) in
    let same = ap (λ (r : List ℕ). length r) all in
    record {
      now = subst Now (heard_bytes me h.hears.taken (aired_packets b) (ap packets (sym all) ∙ air_packets b air)) h.hears.now;
      few = omega (arith, size, long, same);
    }

-- ---- the verdict

pub came : (keeps : Bool) (b : Broadcast) (me : Receiver) (rest : List ℕ) (g : Geometry) (former : Boot) (x y : List ℕ) (verdict : Verdict) → (StagesNone g x → OpensEmpty me) → keeps ≡ true → IsOnAir b → BootOf g x former
    → EndsWith true keeps me (Some (bytes_of_air b)) (Some rest) g x y verdict → Came b me g former.head x y verdict
came keeps b me rest g former x y (Installed chosen) opens keeping air boots ends =
    let i = installed b me rest g former x y chosen opens air boots ends in
    let s = settled b me i.front.before i.front.packet i.front.behind (Whole chosen i.image) air i.front.parts i.front.within i.reached in
    record { is = (i.image, s.all); out = inr s.out; left = i; staged = tt }
came keeps b me rest g former x y (Nothing level) opens keeping air boots ends =
    let e = to_end b me rest _ air ends.0 in
    record { is = e.now.0; out = inl e.few; left = ends.1; staged = tt }
came keeps b me rest g former x y (Incomplete chosen count) opens keeping air boots ends =
    let e = to_end b me rest _ air ends.0 in
    record { is = e.now.0; out = inl e.few; left = ends.1; staged = e.now.2 keeping }
came keeps b me rest g former x y (BadModule id want found) opens keeping air boots ends =
    let u = up_to b me rest (λ heard. Reaches me heard (Wrong id want found)) (IsOpen me) air ends.0 in
    let s = settled_at b me (IsOpen me) (Wrong id want found) air u in
    record { is = s.all; out = inr s.out; left = ends.1.0; staged = ends.1.2 keeping }
came keeps b me rest g former x y Unsettled opens keeping air boots ends =
    let u = up_to b me rest _ (IsOpen me) air ends.0 in
    let s = settled b me u.front.before u.front.packet u.front.behind TooMany air u.front.parts u.front.within u.now.0 in
    record { is = s.all; out = inr s.out; left = ends.1; staged = tt }

-- what was left, whatever the verdict
pub either_left : (b : Broadcast) (me : Receiver) (g : Geometry) (former : Record) (x y : List ℕ) (verdict : Verdict) → IsLeft b me g former x y verdict
    → KeepsBoot g x y ⊎ ((chosen : Chosen) × IsInstalledFrom b me g former x y chosen)
either_left b me g former x y (Installed chosen) left = inr (chosen, left)
either_left b me g former x y (Nothing level) left = inl left
either_left b me g former x y (Incomplete chosen count) left = inl left
either_left b me g former x y (BadModule id want found) left = inl left
either_left b me g former x y Unsettled left = inl left

-- and the record that boot takes of it
pub head_after : (b : Broadcast) (me : Receiver) (g : Geometry) (former taken : Boot) (x y : List ℕ) (verdict : Verdict) → BootOf g x former → BootOf g y taken
    → IsLeft b me g former.head x y verdict → IsHeadAfter former.head taken.head verdict
head_after b me g former taken x y (Installed chosen) from boots left = ap (λ (t : Boot). t.head) (one_boot g y taken _ boots left.installs.commits.boot)
head_after b me g former taken x y (Nothing level) from boots left = ap (λ (t : Boot). t.head) (one_boot g y taken former boots (left.keeps.boot former from))
head_after b me g former taken x y (Incomplete chosen count) from boots left = ap (λ (t : Boot). t.head) (one_boot g y taken former boots (left.keeps.boot former from))
head_after b me g former taken x y (BadModule id want found) from boots left = ap (λ (t : Boot). t.head) (one_boot g y taken former boots (left.keeps.boot former from))
head_after b me g former taken x y Unsettled from boots left = ap (λ (t : Boot). t.head) (one_boot g y taken former boots (left.keeps.boot former from))

-- ---- what is seen without the flash

module _ (known : Type 0) (b : Broadcast) (me : Receiver) (rest : List ℕ) where
  seen_at : (verdict : Verdict) → IsOnAir b → HearsAtPacket me (Some (bytes_of_air b)) (Some rest) (λ heard. IsSeen known me heard (Some verdict)) (IsUndecided known me)
      → IsSeenAt known b me verdict
  seen_at verdict air h =
      let u = up_to b me rest (λ heard. IsSeen known me heard (Some verdict)) (IsUndecided known me) air h in
      record { front = u.front; seen = u.now; undecided = u.earlier }

  pub seen_over : (verdict : Verdict) → IsOnAir b → ComesSeen known me (Some (bytes_of_air b)) (Some rest) verdict → IsSeenOver known b me verdict
  seen_over (Nothing level) air comes = let e = to_end b me rest (λ heard. IsLastSeen known me heard (Nothing level)) air comes in record { few = e.few; is = e.now }
  seen_over (Incomplete chosen count) air comes =
      let e = to_end b me rest (λ heard. IsLastSeen known me heard (Incomplete chosen count)) air comes in record { few = e.few; is = e.now }
  seen_over (Installed chosen) air comes = seen_at (Installed chosen) air comes
  seen_over (BadModule id want found) air comes = seen_at (BadModule id want found) air comes
  seen_over Unsettled air comes = seen_at Unsettled air comes

  pub broken_at : IsOnAir b → BreaksAtPacket known me (Some (bytes_of_air b)) (Some rest) → IsBrokenAt known b me
  broken_at air h =
      let u = up_to b me rest (λ heard. Unit {0}) (IsUndecided known me) air h in
      record { front = u.front; undecided = u.earlier }

-- ---- too many packets

pub record IsMore (known : Type 0) (b : Broadcast) (me : Receiver) : Type 0 where
  pub undecided : IsUndecided known me (heard_over me (packets_taken b))
  pub many : most_packets < length (aired_packets b)

-- the first packets are those of the bytes up to one byte behind them
first_packets : (most : ℕ) (taken rest : List ℕ) → length taken ≡ 188 * most + 1 → take most (packets (taken ++ rest)) ≡ packets taken
first_packets most taken rest one =
    let n = 188 * most in
    let front = take n taken in
    let last = drop n taken in
    let size : length front ≡ 188 * most = omega (arith, length-take n taken, one) in
    let small : length last < 188 = omega (arith, length-drop n taken, one) in
    let parted : front ++ last ≡ taken = take-append-drop n taken in
    let own : packets taken ≡ packets front = ap packets (sym parted) ∙ packets_end front last most size small in
    let all : packets (taken ++ rest) ≡ packets front ++ packets (last ++ rest) =
    ap packets (ap (λ (r : List ℕ). r ++ rest) (sym parted) ∙ append_assoc front last rest) ∙ packets_append front (last ++ rest) most size in
    let l = length_packets front in
    let count : length (packets front) ≡ most = omega (arith, l, size) in
    let few : most - length (packets front) ≡ 0 = omega (arith, count) in
    ap (take most) all
    ∙ take_of_front most (packets front) (packets (last ++ rest)) (omega (arith, count))
    ∙ ap (λ (k : ℕ). packets front ++ take k (packets (last ++ rest))) few
    ∙ append-nil (packets front)
    ∙ sym own

more_than : (most count bytes taken rest : ℕ) → bytes ≡ 188 * count → bytes ≡ taken + rest → taken ≡ 188 * most + 1 → most < count
more_than most count bytes taken rest a b c = omega (arith, a, b, c)

pub more : (known : Type 0) (b : Broadcast) (me : Receiver) (rest : List ℕ) → IsOnAir b → ReachesNone known me (Some (bytes_of_air b)) (Some rest) IsOneMore → IsMore known b me
more known b me rest air h =
    let takes : bytes_of_air b ≡ h.taken ++ rest = h.takes in
    let first : packets_taken b ≡ packets h.taken = ap (take most_packets) (sym (air_packets b air) ∙ ap packets takes) ∙ first_packets most_packets h.taken rest h.bytes in
    record {
      undecided = subst (IsUndecided known me) (heard_bytes me h.taken (packets_taken b) (sym first)) h.now;
      many = more_than most_packets (length (aired_packets b)) (length (bytes_of_air b)) (length h.taken) (length rest) (bytes_long (aired_packets b) (all_long b air))
          (ap (λ (r : List ℕ). length r) takes ∙ length-append h.taken rest) h.bytes;
    }
