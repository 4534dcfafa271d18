-- A resolve that loads leaves what the reload routine of software leaves. Assumes nothing.
use Rattle.std.proofs.Common.{◌≡◌, ℕ, ◌+◌, ◌*◌, ◌/◌, ◌%◌, ◌^◌, ◌<◌, Bool, true, false, cond, not, ◌&&◌, eqb, List, [], ◌∷◌, Some, None, Ok, Err, Option, Result, sym, refl, ap, ◌∙◌, arith, lit<}
use lib.Bits.{bit_and, and_high, and_block}
use Rattle.std.proofs.lemmas.Nat.{shr-shr, and_mask, and_le_r}
use Rattle.std.proofs.lemmas.Bool.{and_from}
use Rattle.std.specs.Option.{ok_or}
use Rattle.board.specs.Memory.{Meaning, aligned, peeked}
use Rattle.board.specs.declared.bus.BusFault.{BusFault}
use Rattle.calls.specs.Answer.{peek_answer}
use Rattle.calls.specs.declared.answer.Answer.TheVariants.{Done, Value, Miss}
use Rattle.calls.specs.declared.fault.Fault.{Fault}
use Rattle.calls.specs.declared.fault.Level.{Level}
use Rattle.calls.specs.declared.fault.Level.TheVariants.{First, Second}
use Rattle.calls.specs.declared.fault.Misuse.TheVariants.{Size, Marks}
use Rattle.mmu.specs.Rights.{kind_of, allows, ruling_of}
use Rattle.mmu.specs.Verdict.{gives}
use Rattle.mmu.specs.Walk.{first_address, second_address, at_level, onward, first_word, second_word}
use Rattle.tlb.specs.Descriptor.{sized, marked}
use Rattle.mmu.specs.declared.rights.Access.{Access}
use Rattle.tlb.proofs.Fields.{field_kept}
use Rattle.tlb.specs.Bits.{field, flag}
use Rattle.tlb.specs.Control.{with_index}
use Rattle.tlb.specs.Page.{common_of, contains}
use Rattle.tlb.specs.Register.{kept_bits, register_at}
use Rattle.tlb.specs.declared.entry.Entry.{Entry}
use Rattle.tlb.specs.declared.register.Kind.{Kind}
use Rattle.tlb.specs.declared.register.Kind.TheVariants.{Instruction, Data}
use Rattle.tlb.specs.declared.register.Register.{Register}
use Rattle.tlb.specs.declared.register.Register.TheVariants.{Epn, Twc, Rpn, Twb}
use Rattle.twin.proofs.Pages.{space_small}
use Rattle.twin.proofs.Staying.{no_load}
use Rattle.twin.specs.Call.{Outcome, access_outcome, resolve_outcome, write_outcome, write_by, read_answer}
use Rattle.twin.specs.Life.{State, state_of, step, next, after, replies}
use Rattle.twin.specs.Promises.{asks}
use Rattle.twin.specs.Reload.{Step, access, read, peek, write, then_held, made_by, steps, accepts, all_accept, Words, ReloadLaw, ReloadExample}
use Rattle.twin.specs.declared.request.Reply.{Reply}
use Rattle.twin.specs.declared.request.Reply.TheVariants.{Answer as Told}
use Rattle.twin.specs.Access.{slot_found, access_answer, found_answer, access_left, found_left}
use Rattle.twin.specs.Load.{Loaded}
use Rattle.twin.specs.Access.{missed_unit}
use Rattle.twin.specs.Load.{missed_epn, with_epn}
use Rattle.twin.specs.Resolve.{loaded_unit}
use Rattle.twin.specs.Registers.{register_read, misused, register_written}
use Rattle.twin.specs.Resolve.{Walked, StoppedFirst, StoppedSecond, Passed, behind_first, from_first, walked, resolved, resolve_found, resolve_walked, resolve_missed, first_data, first_written}
use Rattle.twin.specs.Access.{translates}
use Rattle.twin.specs.Unit.{Page, shape, half, put, zero_entry, space}
use Rattle.twin.specs.declared.unit.Mmu.{Mmu}

-- a missed EPN is the address's page number, the live bit and the space
epn_parts : (e sp : ℕ) → missed_epn e sp ≡ (e / 2 ^ 12 % 2 ^ 20) * 2 ^ 12 + (0x200 + sp)
unfolding missed_epn
epn_parts e sp = omega (arith, and_high e 20 12)

-- so the tables are walked by it as by the address
epn_first : (e sp : ℕ) → sp < 16 → field 0 9 (missed_epn e sp) ≡ field 0 9 e
epn_first e sp small = omega (arith, epn_parts e sp, shr-shr e 12 10)

epn_second : (e sp : ℕ) → sp < 16 → field 10 19 (missed_epn e sp) ≡ field 10 19 e
epn_second e sp small = omega (arith, epn_parts e sp)

-- an EPN register keeps all of it
epn_kept : (e sp : ℕ) → sp < 16 → bit_and (missed_epn e sp) 0xfffff20f ≡ missed_epn e sp
epn_kept e sp small =
    let p = e / 2 ^ 12 % 2 ^ 20 in
    let high : bit_and p 0xfffff ≡ p = and_mask p 20 ∙ omega arith in
    let space : bit_and sp 0xf ≡ sp = and_mask sp 4 ∙ omega arith in
    let low : bit_and (0x20 * 2 ^ 4 + sp) (0x20 * 2 ^ 4 + 0xf) ≡ 0x20 * 2 ^ 4 + sp = and_block 4 0x20 0x20 sp 0xf small (lit< tt) ∙ ap (λ n. 0x20 * 2 ^ 4 + n) space in
    ap (λ n. bit_and n 0xfffff20f) (epn_parts e sp)
    ∙ and_block 12 p 0xfffff (0x200 + sp) 0x20f (omega arith) (lit< tt)
    ∙ (λ i. high i * 2 ^ 12 + low i)
    ∙ sym (epn_parts e sp)

-- MD_TWC keeps the second table's base
base_kept : (w e : ℕ) → second_address (bit_and w (kept_bits (Twc Data))) e ≡ second_address w e
base_kept w e =
    let m = kept_bits (Twc Data) in
    ap (λ n. n + 4 * field 10 19 e) (and_high (bit_and w m) 20 12 ∙ ap (λ n. n * 2 ^ 12) (field_kept w m 0 19 refl) ∙ sym (and_high w 20 12))

-- the second word's address has 32 bits
second_below : (w e : ℕ) → second_address w e < 2 ^ 32
second_below w e = omega (arith, and_le_r w 0xfffff000)

-- a word that the walk passed was read there, and passed its test
no_ok : {A E : Type 0} {f : E} {w : ℕ} → Err f ≡ Ok w → A
no_ok e = let z : ◌≡◌ {A = ℕ} 0 1 = cc in absurd (omega arith)

tested : (t z : Bool) (f g : Fault) (v w : ℕ) → cond t (cond z (Ok v) (Err f)) (Err g) ≡ Ok w → (v ≡ w) × (z ≡ true)
tested true true f g v w h = (cc, refl)
tested true false f g v w h = no_ok h
tested false true f g v w h = no_ok h
tested false false f g v w h = no_ok h

passed : (l : Level) (test : ℕ → Bool) (f g : Fault) (r : Result ℕ BusFault) (w : ℕ) → onward (at_level l r) (λ v. cond (flag 31 v) (cond (test v) (Ok v) (Err f)) (Err g)) ≡ Ok w → (r ≡ Ok w) × (test w ≡ true)
passed l test f g (Ok v) w h =
    let p = tested (flag 31 v) (test v) f g v w h in
    (ap (λ n. Ok n) p.0, ap test (sym p.0) ∙ p.1)
passed l test f g (Err b) w h = no_ok h

-- a walk that passed both words
record Walks (m : Meaning) (base e w v : ℕ) : Type 0 where
  first : peeked m (first_address base e) ≡ Ok w
  size : sized w ≡ true
  second : peeked m (second_address w e) ≡ Ok v
  marks : marked v ≡ true

both : (m : Meaning) (base e w v : ℕ) → first_word m base e ≡ Ok w → second_word m w e ≡ Ok v → Walks m base e w v
unfolding first_word second_word
both m base e w v p q =
    let one = passed First sized _ _ (peeked m (first_address base e)) w p in
    let two = passed Second marked _ _ (peeked m (second_address w e)) v q in
    record { first = one.0; size = one.1; second = two.0; marks = two.1 }

second_of : (first : ℕ) (r : Result ℕ Fault) (w v : ℕ) → behind_first first r ≡ Passed w v → (first ≡ w) × (r ≡ Ok v)
second_of first (Ok x) w v h = (cc, cc)
second_of first (Err f) w v h = let z : ◌≡◌ {A = ℕ} 0 1 = cc in absurd (omega arith)

first_of : (m : Meaning) (e : ℕ) (r : Result ℕ Fault) (w v : ℕ) → from_first m e r ≡ Passed w v → (r ≡ Ok w) × (second_word m w e ≡ Ok v)
first_of m e (Ok x) w v h =
    let p = second_of x (second_word m x e) w v h in
    (ap (λ n. Ok n) p.0, ap (λ n. second_word m n e) (sym p.0) ∙ p.1)
first_of m e (Err f) w v h = let z : ◌≡◌ {A = ℕ} 0 1 = cc in absurd (omega arith)

walks : (m : Meaning) (base e w v : ℕ) → walked m base e ≡ Passed w v → Walks m base e w v
unfolding walked
walks m base e w v h =
    let p = first_of m e (first_word m base e) w v h in
    both m base e w v p.0 p.1

-- steps from a state that come to another, all accepted
record Comes (fs : List Step) (held : ℕ) (s t : State) : Type 0 where
  left : after s (made_by fs held s) ≡ t
  fine : all_accept (replies s (made_by fs held s)) ≡ true

stay : (held : ℕ) (s : State) → Comes [] held s s
stay held s = record { left = refl; fine = refl }

one_more : (f : Step) (fs : List Step) (held : ℕ) (s s' t : State) (r : Reply) → (step (f held) s).reply ≡ r → next (f held) s ≡ s' → accepts r ≡ true → Comes fs (then_held held r) s' t → Comes (f ∷ fs) held s t
one_more f fs held s s' t r told to ok c = record {
  left = (λ i. after (to i) (made_by fs (then_held held (told i)) (to i))) ∙ c.left;
  fine = (λ i. accepts (told i) && all_accept (replies (to i) (made_by fs (then_held held (told i)) (to i)))) ∙ and_from _ _ ok c.fine;
}

left_by : Outcome → State
left_by o = state_of o.unit o.memory

-- by step
module _ (m : Meaning) (t : State) (fs : List Step) (held : ℕ) (u : Mmu) where
  reads : (n : ℕ) (r : Register) (w : ℕ) → register_at n ≡ Some r → register_read r u ≡ w → Comes fs w (state_of u m) t → Comes (read n ∷ fs) held (state_of u m) t
  reads n r w is word c =
      one_more (read n) fs held (state_of u m) (state_of u m) t (Told (Value w))
      (ap (λ o. Told (read_answer o n u)) is ∙ ap (λ x. Told (Value x)) word)
      refl refl c

  peeks : (w : ℕ) → peeked m held ≡ Ok w → Comes fs w (state_of u m) t → Comes (peek ∷ fs) held (state_of u m) t
  peeks w word c = one_more peek fs held (state_of u m) (state_of u m) t (Told (Value w)) (ap (λ x. Told (peek_answer x)) word) refl refl c

  writes : (n : ℕ) (r : Register) (v : Mmu) → register_at n ≡ Some r → misused r held ≡ None → register_written r held u ≡ v → Comes fs held (state_of v m) t → Comes (write n ∷ fs) held (state_of u m) t
  unfolding left_by
  writes n r v is fits to c =
      one_more (write n) fs held (state_of u m) (state_of v m) t (Told Done)
      (ap (λ o. (write_outcome o n held u m).reply) is ∙ ap (λ o. (write_by o r n held u m).reply) fits)
      (ap (λ o. left_by (write_outcome o n held u m)) is ∙ ap (λ o. left_by (write_by o r n held u m)) fits ∙ ap (λ x. state_of x m) to)
      refl c

-- a unit, and a walk of its tables that passed
module _ (m : Meaning) (e w v : ℕ) (u : Mmu) (walk : Walks m u.twb e w v) (words : Words m) where
  fits_twc : (k : Kind) → misused (Twc k) w ≡ None
  fits_twc k = ap (λ b. cond (not b) (Some Size) None) walk.size

  fits_rpn : (k : Kind) → misused (Rpn k) v ≡ None
  fits_rpn k = ap (λ b. cond (not b) (Some Marks) None) walk.marks

  whole : bit_and v 0xffffffff ≡ v
  whole = let b = words (second_address w e) v (second_below w e) walk.second in and_mask v 32 ∙ omega arith

  -- the first word, through M_TWB
  first_part : (fs : List Step) (held : ℕ) (x : Mmu) (t : State) → x.twb ≡ u.twb → x.«data».registers.epn ≡ missed_epn e (space u) → Comes fs w (state_of (first_data w x) m) t → Comes (read 796 ∷ peek ∷ write 797 ∷ fs) held (state_of x m) t
  first_part fs held x t base epn c =
      let a = first_address u.twb e in
      let at : first_address x.twb x.«data».registers.epn ≡ a = (λ i. first_address (base i) (epn i)) ∙ ap (λ f. bit_and u.twb 0xfffff000 + 4 * f) (epn_first e (space u) (space_small u.casid)) in
      reads m t _ held x 796 Twb a refl at
      (peeks m t _ a x w walk.first
      (writes m t fs w x 797 (Twc Data) (first_data w x) refl (fits_twc Data) refl c))

  -- the second, through MD_TWC; it loads
  second_part : (k : Kind) (n held : ℕ) (x : Mmu) → register_at n ≡ Some (Rpn k) → x.«data».registers.twc ≡ bit_and w (kept_bits (Twc Data)) → x.«data».registers.epn ≡ missed_epn e (space u) → Comes (read 797 ∷ peek ∷ write n ∷ []) held (state_of x m) (state_of (loaded_unit k v x) m)
  second_part k n held x is twc epn =
      let a = second_address w e in
      let t = state_of (loaded_unit k v x) m in
      let at : second_address x.«data».registers.twc x.«data».registers.epn ≡ a =
      (λ i. second_address (twc i) (epn i))
      ∙ ap (λ f. bit_and (bit_and w (kept_bits (Twc Data))) 0xfffff000 + 4 * f) (epn_second e (space u) (space_small u.casid))
      ∙ base_kept w e in
      reads m t _ held x 797 (Twc Data) a refl at
      (peeks m t _ a x v walk.second
      (writes m t [] v x n (Rpn k) (loaded_unit k v x) is (fits_rpn k) (ap (λ y. loaded_unit k y x) whole) (stay v t)))

  -- the routine, from the access that misses
  all_steps : (k : Kind) (n : ℕ) → (step (asks false n e) (state_of u m)).reply ≡ Told Miss → next (asks false n e) (state_of u m) ≡ state_of (missed_unit k e u) m → Comes (steps k n e) 0 (state_of u m) (state_of (loaded_unit k v (first_written k w (resolve_missed k e u))) m)
  all_steps Instruction n told to =
      let missed = missed_unit Instruction e u in
      let epn = missed_epn e (space u) in
      let numbered = resolve_missed Instruction e u in
      let written = first_written Instruction w numbered in
      let t = state_of (loaded_unit Instruction v written) m in
      one_more (access n e) _ 0 (state_of u m) (state_of missed m) t (Told Miss) told to refl
      (reads m t _ 0 missed 787 (Epn Instruction) epn refl refl
      (writes m t _ epn missed 795 (Epn Data) numbered refl refl (ap (λ x. put Data (with_epn x u.«data») missed) (epn_kept e (space u) (space_small u.casid)))
      (first_part _ epn numbered t refl refl
      (writes m t _ w (first_data w numbered) 789 (Twc Instruction) written refl (fits_twc Instruction) refl
      (second_part Instruction 790 w written refl refl refl)))))
  all_steps Data n told to =
      let missed = missed_unit Data e u in
      let t = state_of (loaded_unit Data v (first_data w missed)) m in
      one_more (access n e) _ 0 (state_of u m) (state_of missed m) t (Told Miss) told to refl
      (first_part _ 0 missed t refl refl
      (second_part Data 798 w (first_data w missed) refl refl refl))

-- a resolve that loads had its translation on, found no slot, and walked both words
record Loads (k : Kind) (on : Bool) (m : Meaning) (e : ℕ) (u : Mmu) : Type 0 where
  w : ℕ
  v : ℕ
  translated : on ≡ true
  missing : slot_found (shape k) (half k u) e (space u) ≡ None
  walk : walked m u.twb e ≡ Passed w v

module _ (k : Kind) (m : Meaning) (a : Access) (e i : ℕ) (u : Mmu) (x : Entry (Page k)) where
  by_walk : (o : Walked) → walked m u.twb e ≡ o → slot_found (shape k) (half k u) e (space u) ≡ None → (resolve_walked k o a e (resolve_missed k e u)).events k ≡ Loaded i x ∷ [] → Loads k true m e u
  by_walk (StoppedFirst f) is missing h = no_load i x h
  by_walk (StoppedSecond w f) is missing h = no_load i x h
  by_walk (Passed w v) is missing h = record { w = w; v = v; translated = refl; missing = missing; walk = is }

  by_slot : (o : Option ℕ) → slot_found (shape k) (half k u) e (space u) ≡ o → (resolve_found k o m a e u).events k ≡ Loaded i x ∷ [] → Loads k true m e u
  by_slot (Some j) is h = no_load i x h
  by_slot None is h = by_walk (walked m u.twb e) refl is h

  by_mode : (on : Bool) → (resolved on k m a e u).events k ≡ Loaded i x ∷ [] → Loads k on m e u
  by_mode false h = no_load i x h
  by_mode true h = by_slot (slot_found (shape k) (half k u) e (space u)) refl h

pub reload_law : ReloadLaw
unfolding left_by
reload_law s n e i a x words is h =
    let k = kind_of a in
    let u = s.unit in
    let m = s.memory in
    let on = translates k u.mode in
    let l = by_mode k m a e i u x on (sym (ap (λ o. (resolve_outcome o n e u m).events k) is) ∙ h) in
    let told : (step (asks false n e) s).reply ≡ Told Miss =
    ap (λ o. (access_outcome o n e u m).reply) is
    ∙ ap (λ b. Told (access_answer b k u a e)) l.translated
    ∙ ap (λ o. Told (found_answer (shape k) (half k u) (zero_entry k) o u.mode.problem a e)) l.missing in
    let to : next (asks false n e) s ≡ state_of (missed_unit k e u) m =
    ap (λ o. left_by (access_outcome o n e u m)) is
    ∙ ap (λ b. state_of (access_left b k u e) m) l.translated
    ∙ ap (λ o. state_of (found_left k o e u) m) l.missing in
    let left : next (asks true n e) s ≡ state_of (loaded_unit k l.v (first_written k l.w (resolve_missed k e u))) m =
    ap (λ o. left_by (resolve_outcome o n e u m)) is
    ∙ ap (λ b. state_of (resolved b k m a e u).unit m) l.translated
    ∙ ap (λ o. state_of (resolve_found k o m a e u).unit m) l.missing
    ∙ ap (λ o. state_of (resolve_walked k o a e (resolve_missed k e u)).unit m) l.walk in
    let c = all_steps m e l.w l.v u (walks m u.twb e l.w l.v l.walk) words k n told to in
    record { same = c.left ∙ sym left; accepted = c.fine }

-- the example; a word of its tables is one of two
tables_small : (t p q : Bool) (b c : BusFault) (w : ℕ) → cond t (ok_or (cond p (Some 0x2001) (cond q (Some 0x51f1) None)) b) (Err c) ≡ Ok w → w < 2 ^ 32
tables_small true true true b c w h = let same : 0x2001 ≡ w = cc in omega arith
tables_small true true false b c w h = let same : 0x2001 ≡ w = cc in omega arith
tables_small true false true b c w h = let same : 0x51f1 ≡ w = cc in omega arith
tables_small true false false b c w h = no_ok h
tables_small false true true b c w h = no_ok h
tables_small false true false b c w h = no_ok h
tables_small false false true b c w h = no_ok h
tables_small false false false b c w h = no_ok h

pub reload_example : ReloadExample
unfolding allows ruling_of gives first_word second_word common_of contains with_index missed_epn walked
reload_example = record {
  words = λ a w _ h. tables_small (aligned a) (eqb a 0x1000) (eqb a 0x2004) _ _ w h;
  load_loads = refl;
  load_steps = refl;
  load_answers = refl;
  fetch_loads = refl;
  fetch_steps = refl;
  fetch_answers = refl;
}
