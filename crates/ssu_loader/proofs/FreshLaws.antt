-- A loader that took no packet yet.
use Rattle.std.proofs.Common.{◌≡◌, ℕ, ◌-◌, ◌<◌, ◌≤◌, Bool, true, false, eqb, List, [], Some, None, refl, sym, ap, subst, ◌∙◌, arith}
use Rattle.std.specs.Prelude.{Result, Ok, Err, if◌then◌else◌}
use Rattle.box_file.specs.declared.file.BoxFile.{BoxFile}
use Rattle.flash_dev.specs.declared.device.Flash.{Ghosts as FlashGhosts}
use Rattle.flash_bank.specs.Bank.{Fits, IsLent, block_of, current_of, geometry_of}
use Rattle.flash_kept.specs.SpareArea.{spare_area}
use Rattle.flash_layout.specs.Layout.{Geometry, mark_count}
use Rattle.flash_bank.specs.Sound.{IsWorn, number_in}
use Rattle.flash_bank.specs.declared.bank.Bank.{Bank}
use Rattle.flash_bank.specs.declared.fault.BankFault.{BankFault}
use Rattle.flash_bank.specs.declared.fault.BankFault.TheVariants as bank_fault
use Rattle.flash_bank.specs.declared.record.Record.{Record}
use Rattle.flash_bank.proofs.SoundLemmas.{one_current}
use Rattle.flash_stage.specs.declared.stage.Stage.{Ghosts as StageGhosts}
use Rattle.ts_section.specs.Events.{Heard}
use Rattle.route_tables.specs.Values.{Receiver, nothing_open}
use Rattle.ssu_route.specs.declared.choice.Choice.{Choice}
use Rattle.ssu_route.specs.Choosing.{level_7}
use Rattle.ssu_route.specs.Queries.{heard_by}
use Rattle.ssu_route.specs.Windows.{IsChoice, beginnings}
use Rattle.ssu_route.proofs.Choices.{beginnings-none, level_7-none}
use Rattle.ssu_route.proofs.Following.{heard_none}
use Rattle.ssu_loader.specs.declared.fault.LoadFault.{LoadFault}
use Rattle.ssu_loader.specs.declared.fault.LoadFault.TheVariants as load_fault
use Rattle.ssu_loader.specs.declared.loader.Loader.{Loader}
use Rattle.ssu_loader.specs.Decisions.{IsOpen}
use Rattle.ssu_loader.specs.Faults.{WhereNotWorn, of_bank}
use Rattle.ssu_loader.specs.Loading.{Follows, IsFresh, bank_of, receiver_in}
use Rattle.ssu_loader.specs.Opening.{most_kept, opening_by, opening_of}
use Rattle.ssu_loader.specs.Remaining.{StagesLast}
use Rattle.ssu_loader.specs.Verdicts.{IsUnfilled}
use Rattle.ssu_loader.proofs.ChoiceLaws.{no_choice}
use Rattle.ssu_loader.proofs.DecisionLaws.{open_none}
use Rattle.ssu_loader.proofs.RemainingLaws.{opening_stages}
use Rattle.ssu_loader.proofs.UnfilledLaws.{unfilled_none}

none_chosen : (me : Receiver) (choice : Choice) → IsChoice me (heard_by me []) choice → ⊥
none_chosen me choice is = no_choice me (heard_by me []) choice (ap (level_7 me) (heard_none me) ∙ level_7-none me) is

none_begun : (me : Receiver) → beginnings me (heard_by me []) ≡ 0
none_begun me = ap (beginnings me) (heard_none me) ∙ beginnings-none me

none_decided : (me : Receiver) → IsOpen me (heard_by me [])
none_decided me = subst (λ (items : List Heard). IsOpen me items) (sym (heard_none me)) (open_none me)

-- ---- what it found at the opening

opens_nothing : (keeps : Bool) (g : Geometry) (current : Record) (contents : List ℕ) → keeps ≡ false → opening_of keeps g current contents ≡ nothing_open
opens_nothing keeps g current contents never = ap (λ (k : Bool). opening_of k g current contents) never

opens_most : (keeps : Bool) (g : Geometry) (current : Record) (contents : List ℕ) → keeps ≡ true → (opening_of keeps g current contents).most ≡ most_kept g current
opens_most keeps g current contents always = ap (λ (k : Bool). (opening_of k g current contents).most) always ∙ by_layout (eqb current.layout 2) refl
  where
    by_layout : (b : Bool) → eqb current.layout 2 ≡ b → (opening_by (eqb current.layout 2) (spare_area g (1 - current.bank) current.number) contents).most ≡ (if eqb current.layout 2 then Some (mark_count g) else None)
    by_layout true e = rw e refl
    by_layout false e = rw e refl

pub fresh_follows : {S F : Type 0} (s : StageGhosts S) (f : FlashGhosts F) (file : BoxFile) (loader : Loader S) (contents : List ℕ) (flash : F)
    → IsFresh s (receiver_in s.KEEPS file loader contents) loader → IsLent f.tells f.contents f.block_count f.block_len (bank_of loader) flash → (current_of (bank_of loader)).number < 4294967295
    → (f.tells → f.contents flash ≡ contents) → Follows s f (receiver_in s.KEEPS file loader contents) [] loader flash
fresh_follows s f file loader contents flash fresh lent next told =
    let me = receiver_in s.KEEPS file loader contents in
    let bank = bank_of loader in
    let few : loader.collector.choices ≤ 16 = let none = fresh.none in omega (arith, none) in
    let counted : loader.collector.choices ≡ beginnings me (heard_by me []) = fresh.none ∙ sym (none_begun me) in
    let nothing : level_7 me (heard_by me []) ≡ None = ap (level_7 me) (heard_none me) ∙ level_7-none me in
    record {
      hears = fresh.hears;
      collects = record {
        stands = fresh.stands;
        gathers = record {
          opens = opens_nothing s.KEEPS (geometry_of bank) (current_of bank) contents;
          most = opens_most s.KEEPS (geometry_of bank) (current_of bank) contents;
          len = refl;
          runs = refl;
          lent = lent;
          made_for = fresh.made_for;
          next_fits = next;
          hears = record {
            unfilled = subst (λ (items : List Heard). IsUnfilled me items) (sym (heard_none me)) (unfilled_none me);
            counted = counted;
            few = few;
            planned = λ choice is. absurd (none_chosen me choice is);
            includes = λ choice is. absurd (none_chosen me choice is);
          };
          knows = λ known. record {
            undecided = none_decided me;
            filled = λ choice is. absurd (none_chosen me choice is);
          };
          works = λ choice is. absurd (none_chosen me choice is);
          message = λ keeps message e. let both : None ≡ Some message = sym nothing ∙ e in absurd cc;
          told = λ tells choice is. absurd (none_chosen me choice is);
          staged = λ keeps tells.
              subst (λ (items : List Heard). StagesLast me items (geometry_of bank) (f.contents flash)) (sym (heard_none me))
              (opening_stages me bank (f.contents flash) (lent.fits tells)
              (ap (λ (k : Bool). opening_of k (geometry_of bank) (current_of bank) contents) keeps
              ∙ ap (opening_of true (geometry_of bank) (current_of bank)) (sym (told tells))));
          begun = λ staged some. let none = fresh.none in absurd (omega (arith, none, some));
        };
      };
    }

-- ---- a bank with a number left

pub not_worn : (bank : Bank) (contents : List ℕ) → Fits bank contents → (current_of bank).number < 4294967295 → IsWorn (geometry_of bank) contents → ⊥
not_worn bank contents fits next worn =
    let same = one_current (geometry_of bank) contents worn.block (block_of bank) worn.current fits.current in
    let number : number_in (geometry_of bank) contents worn.block ≡ (current_of bank).number =
    ap (number_in (geometry_of bank) contents) same ∙ ap (λ (r : Record). r.number) fits.head in
    omega (arith, worn.greatest, number, next)

pub where_not_worn : {T : Type 0} (r : Result T LoadFault) (P : Type 0) → P → WhereNotWorn r P
where_not_worn (Ok v) P p = p
where_not_worn (Err load_fault.Geometry) P p = tt
where_not_worn (Err load_fault.FlashFault) P p = tt
where_not_worn (Err load_fault.Foreign) P p = tt
where_not_worn (Err load_fault.Worn) P p = tt
where_not_worn (Err load_fault.Memory) P p = p
where_not_worn (Err load_fault.ReadFault) P p = p
where_not_worn (Err load_fault.TooLong) P p = p

pub same_geometry : (a b : Geometry) → a.blocks ≡ b.blocks → a.block_len ≡ b.block_len → a ≡ b
same_geometry a b blocks lens =
    let first : a ≡ record { blocks = b.blocks; block_len = a.block_len } = ap (λ (n : ℕ). record { blocks = n; block_len = a.block_len }) blocks in
    let second : record { blocks = b.blocks; block_len = a.block_len } ≡ b = ap (λ (n : ℕ). record { blocks = b.blocks; block_len = n }) lens in
    first ∙ second

-- ---- why a bank was not opened

pub worn_bank : (fault : BankFault) → of_bank fault ≡ load_fault.Worn → fault ≡ bank_fault.Worn
worn_bank bank_fault.Geometry is = absurd cc
worn_bank bank_fault.Flash is = absurd cc
worn_bank bank_fault.Foreign is = absurd cc
worn_bank bank_fault.Worn is = refl

err_of : {T E : Type 0} → Result T E → E → E
err_of (Ok v) other = other
err_of (Err e) other = e

pub same_err : {T E : Type 0} (r : Result T E) (a b : E) → r ≡ Err a → r ≡ Err b → a ≡ b
unfolding err_of
same_err r a b is other = sym (ap (λ (q : Result _ _). err_of q a) is) ∙ ap (λ (q : Result _ _). err_of q a) other
