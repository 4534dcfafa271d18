-- The page that a resolve loads is the page that it read, and its entry serves the address. Assumes nothing.
use Rattle.std.proofs.Common.{◌≡◌, ℕ, ◌+◌, ◌*◌, ◌/◌, ◌^◌, ◌<◌, Bool, true, false, cond, ◌&&◌, eqb, refl, ap, ◌∙◌, arith}
use lib.Bits.{bit_and, and_high}
use Rattle.std.proofs.lemmas.Nat.{shr-shr, mod_below, pow_pos}
use Rattle.std.proofs.lemmas.Bool.{eq-eqb, or_right, and_from}
use Rattle.tlb.proofs.Fields.{field_kept}
use Rattle.tlb.specs.Bits.{field, flag, cleared}
use Rattle.tlb.specs.Control.{group_mode, next_index}
use Rattle.tlb.specs.Entry.{entry_of}
use Rattle.tlb.specs.Page.{offset_bits, size_of, common_of, contains}
use Rattle.tlb.specs.Register.{kept_bits}
use Rattle.tlb.specs.declared.page.Size.{Size}
use Rattle.tlb.specs.declared.page.Size.TheVariants.{Kb4, Kb16, Kb512, Mb8}
use Rattle.tlb.specs.declared.register.Kind.{Kind}
use Rattle.tlb.specs.declared.register.Kind.TheVariants.{Instruction, Data}
use Rattle.tlb.specs.declared.register.Register.TheVariants.{Twc}
use Rattle.twin.specs.Access.{serves}
use Rattle.tlb.specs.Control.{with_index}
use Rattle.twin.specs.Load.{missed_epn}
use Rattle.twin.specs.Unit.{shape}

-- a missed EPN is the address's page number, the live bit and the space
epn_is : (e sp : ℕ) → e < 2 ^ 32 → missed_epn e sp ≡ e / 2 ^ 12 * 2 ^ 12 + 0x200 + sp
unfolding missed_epn
epn_is e sp h = ap (λ n. n + 0x200 + sp) (and_high e 20 12 ∙ omega arith)

same_first : (s : Size) (e sp : ℕ) → e < 2 ^ 32 → sp < 16 → cleared (offset_bits s) (missed_epn e sp) ≡ cleared (offset_bits s) e
same_first Kb4 e sp h small = omega (arith, epn_is e sp h)
same_first Kb16 e sp h small = omega (arith, epn_is e sp h, shr-shr e 12 2)
same_first Kb512 e sp h small = omega (arith, epn_is e sp h, shr-shr e 12 7)
same_first Mb8 e sp h small = omega (arith, epn_is e sp h, shr-shr e 12 11)

pub epn_live : (e sp : ℕ) → e < 2 ^ 32 → sp < 16 → flag 22 (missed_epn e sp) ≡ true
epn_live e sp h small = eq-eqb _ _ (omega (arith, epn_is e sp h))

pub epn_space : (e sp : ℕ) → e < 2 ^ 32 → sp < 16 → field 28 31 (missed_epn e sp) ≡ sp
epn_space e sp h small = omega (arith, epn_is e sp h)

pub index_mode : (i c : ℕ) → i < 32 → group_mode (with_index i c) ≡ group_mode c
unfolding with_index
index_mode i c h = ap (λ n. eqb n 1) (omega (arith, shr-shr c 13 18))

-- what both kinds of page have, made of a kept first word, is as made of the word itself
common_same : (e sp w m v : ℕ) → e < 2 ^ 32 → sp < 16 → field 23 26 m ≡ 15 → field 27 27 m ≡ 1 → field 28 28 m ≡ 1 → field 29 29 m ≡ 1 → field 31 31 m ≡ 1 → common_of (missed_epn e sp) (bit_and w m) v ≡ common_of e w v
unfolding common_of
common_same e sp w m v h small f23 f27 f28 f29 f31 =
    let k28 = ap (λ n. eqb n 1) (field_kept w m 28 28 f28) in
    let k29 = ap (λ n. eqb n 1) (field_kept w m 29 29 f29) in
    let size : size_of (bit_and w m) v ≡ size_of w v = λ i. cond (k29 i) (cond (k28 i) Mb8 Kb512) (cond (flag 28 v) Kb16 Kb4) in
    let first = ap (λ s. cleared (offset_bits s) (missed_epn e sp)) size ∙ same_first (size_of w v) e sp h small in
    let base = ap (λ s. cleared (offset_bits s) v) size in
    λ i. record {
      size = size i;
      first = first i;
      base = base i;
      group = field_kept w m 23 26 f23 i;
      guarded = eqb (field_kept w m 27 27 f27 i) 1;
      rights = field 20 22 v;
      shared = flag 29 v;
      cache_inhibit = flag 30 v;
      valid = eqb (field_kept w m 31 31 f31 i) 1 && flag 31 v;
    }

pub page_same : (k : Kind) (e sp w v : ℕ) → e < 2 ^ 32 → sp < 16 → (shape k).made (missed_epn e sp) (bit_and w (kept_bits (Twc k))) v ≡ (shape k).made e w v
page_same Instruction e sp w v h small = ap (λ c. record { common = c }) (common_same e sp w 0x000001fd v h small refl refl refl refl refl)
page_same Data e sp w v h small =
    let common = common_same e sp w 0xfffff1ff v h small refl refl refl refl refl in
    λ i. record { common = common i; write_through = eqb (field_kept w 0xfffff1ff 30 30 refl i) 1; changed = flag 23 v }

contains_self : (e w v : ℕ) → contains (common_of e w v) e ≡ true
unfolding contains common_of
contains_self e w v = eq-eqb _ _ refl

made_body : (k : Kind) (e w v : ℕ) → (shape k).body ((shape k).made e w v) ≡ common_of e w v
made_body Instruction e w v = refl
made_body Data e w v = refl

-- the entry that a resolve loads serves its address in the current space
pub loaded_serves : (k : Kind) (e sp w v : ℕ) → e < 2 ^ 32 → sp < 16 → serves (shape k) e sp (entry_of (shape k).made (missed_epn e sp) (bit_and w (kept_bits (Twc k))) v) ≡ true
loaded_serves k e sp w v h small =
    let page = page_same k e sp w v h small in
    let inside : contains ((shape k).body ((shape k).made (missed_epn e sp) (bit_and w (kept_bits (Twc k))) v)) e ≡ true =
    ap (λ p. contains ((shape k).body p) e) page ∙ ap (λ c. contains c e) (made_body k e w v) ∙ contains_self e w v in
    and_from _ _ (epn_live e sp h small) (and_from _ _ inside (or_right _ _ (eq-eqb _ _ (epn_space e sp h small))))

pub space_small : (c : ℕ) → field 28 31 c < 16
space_small c = mod_below _ (2 ^ 4) (pow_pos 4)

pub next_small : (reserved : Bool) (i : ℕ) → next_index reserved i < 32
next_small true i = omega arith
next_small false i = omega arith

-- a missed EPN is live, whatever the address
pub epn_lives : (e sp : ℕ) → sp < 16 → flag 22 (missed_epn e sp) ≡ true
unfolding missed_epn
epn_lives e sp small = eq-eqb _ _ (omega (arith, and_high e 20 12))
