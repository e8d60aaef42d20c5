-- The emergency key, home numbers and system code are written as their settings. Assumes nothing.
use Rattle.lists.proofs.Kit.{ℕ, ◌+◌, ◌-◌, ◌*◌, ◌%◌, ◌≤◌, ◌<◌, ◌≡◌, refl, sym, ap, ap₂, ◌∙◌, true, false, List, [], ◌∷◌, ◌++◌, append-nil, arith, mid_of, length, get_or, take}
use Rattle.lists.specs.Every.{All}
use Rattle.slots.specs.Slots.{u24}
use Rattle.writing.specs.declared.KeyTarget.{KeyTarget}
use Rattle.writing.specs.declared.KeyTarget.TheVariants.{Current, ToGroup, ToIndividual}
use Rattle.writing.specs.declared.HomeNumbers.{HomeNumbers}
use Rattle.writing.specs.declared.SystemCode.{SystemCode}
use Rattle.writing.specs.Canonical.{plain, canonical, canonical_all, FitsField}
use Rattle.writing.specs.Fields.{Field, val, res}
use Rattle.writing.specs.Settings.{Setting, key, home, system, kind, unicode16}
use Rattle.writing.specs.Writing.{bit, flag, current, to_group, type_byte, body, key_address}
use Rattle.writing.proofs.Whole.{Whole}
use Rattle.tables.specs.Allowed.{HomeOk, SystemOk, TargetOk}
use Rattle.store_check.specs.Checks.{KeyOk}
use Rattle.tables.specs.Layout.{key_bytes, key_flags, home_bytes, system_bytes, key_address as kept_address}
use Rattle.tables.specs.Tables.{Key}
use Rattle.tables.proofs.EntryCodes.{bit_small}
use Rattle.export_write.specs.FixedWriters.{home_bits, system_bits, Three, WritesThree}
use Rattle.export_write.specs.Writers.{Wrote, Kept, Started}
use Rattle.export_write.proofs.PlainLaws.{plain_byte, plain_three}
use Rattle.export_write.proofs.WroteLaws.{wrote_both, wrote_as}

-- ---- settings of three bytes

-- three bytes were written, and the setting started before them
pub bits_wrote : (type bits at end r : ℕ) (a s t u : List ℕ) → length a ≡ 3 → (bits < 16777216 → a ≡ u24 bits) → Wrote a (at + 3) s t end → Started type at end t u r
    → WritesThree type bits at s u r
bits_wrote type bits at end r a s t u l e w st = (
  omega (arith, st.same, w.next),
  λ x k.
      let B : List Field = body unicode16 x in
      let p : plain B ≡ u24 bits = ap plain (sym (append-nil B)) ∙ plain_three bits B [] k.wide k.are k.small (0, refl) tt in
      st.setting x s k.type_is k.fits (wrote_as a (plain B) (at + 3) end s t (e k.small ∙ sym p) w),
)

-- home numbers: their values fit
pub home_fits : (h : HomeNumbers) → HomeOk h → All FitsField (body unicode16 (home h))
home_fits h ok = (omega (arith, ok.nzi), (omega (arith, ok.np), (tt, tt)))

-- and they are one
pub home_three : (p : List ℕ) (bits : ℕ) → bits ≡ home_bits p → (h : HomeNumbers) → Kept HomeOk home_bytes p h → Three 0xCD bits (home h)
home_three p bits b h (ok, e) =
    let k : h.nzi < 512 = ok.nzi in
    let l : h.np ≤ 806 = ok.np in
    let x : (get_or p 0 0 * 256 + get_or p 1 0) % 512 ≡ h.nzi = ap (λ (q : List ℕ). (get_or q 0 0 * 256 + get_or q 1 0) % 512) e ∙ omega arith in
    let y : (get_or p 2 0 * 256 + get_or p 3 0) % 1024 ≡ h.np = ap (λ (q : List ℕ). (get_or q 2 0 * 256 + get_or q 3 0) % 1024) e ∙ omega arith in
    record { type_is = refl; wide = refl; are = omega arith; small = omega arith; fits = home_fits h ok }

-- a system code: its values fit
pub system_fits : (s : SystemCode) → SystemOk s → All FitsField (body unicode16 (system s))
system_fits s ok = (omega (arith, ok.lai), (omega (arith, ok.la), (omega (arith, ok.roaming), (omega (arith, bit_small s.par), (tt, tt)))))

-- and it is one
pub system_three : (p : List ℕ) (bits : ℕ) → bits ≡ system_bits p → (s : SystemCode) → Kept SystemOk system_bytes p s → Three 0xCF bits (system s)
system_three p bits b s (ok, e) =
    let k : s.lai < 4096 = ok.lai in
    let l : s.la ≤ 8 = ok.la in
    let m : s.roaming < 3 = ok.roaming in
    let n : bit s.par ≤ 1 = bit_small s.par in
    let x : (get_or p 0 0 * 256 + get_or p 1 0) % 4096 ≡ s.lai = ap (λ (q : List ℕ). (get_or q 0 0 * 256 + get_or q 1 0) % 4096) e ∙ omega arith in
    let y : get_or p 2 0 % 128 ≡ s.la * 8 + s.roaming * 2 + bit s.par = ap (λ (q : List ℕ). get_or q 2 0 % 128) e ∙ omega arith in
    record { type_is = refl; wide = refl; are = omega arith; small = omega arith; fits = system_fits s ok }

-- ---- the emergency key

-- what an emergency key's target says of the address that is kept and sent
address_fits : (t : KeyTarget) → TargetOk t → All FitsField (key_address t)
address_fits (Current g) h = tt
address_fits (ToGroup a) h = (h.1, tt)
address_fits (ToIndividual a) h = (h.1, tt)

-- its values fit
pub key_fits : (k : Key) → KeyOk k → All FitsField (body unicode16 (key k.target k.flags))
key_fits k ok =
    let a = bit_small (current k.target) in
    let b = bit_small (to_group k.target) in
    let c = bit_small k.flags.voice in
    let d = bit_small k.flags.status in
    let e = bit_small k.flags.siren in
    (omega arith, (omega arith, (omega arith, (omega arith, (omega arith, (tt, address_fits k.target ok))))))

-- it is absent or has three bytes
address_whole : (t : KeyTarget) → Whole (key_address t)
address_whole (Current g) = (0, refl)
address_whole (ToGroup a) = (3, refl)
address_whole (ToIndividual a) = (3, refl)

-- an address that is sent is the one that is kept
address_sent : (t : KeyTarget) → TargetOk t → (n : ℕ) → (current t ≡ false → n ≡ 3) → (current t ≡ true → n ≡ 0)
    → take n (u24 (kept_address t)) ≡ plain (key_address t)
address_sent (Current g) h n a b = rw (b refl)
address_sent (ToGroup x) h n a b = rw (a refl) (sym (plain_three x.0 (val 24 x.0 ∷ []) [] refl (omega arith) h.1 (0, refl) tt))
address_sent (ToIndividual x) h n a b = rw (a refl) (sym (plain_three x.0 (val 24 x.0 ∷ []) [] refl (omega arith) h.1 (0, refl) tt))

-- the flags of a kept key
module _ (k : Key) where
  rest_small : bit (to_group k.target) * 8 + bit k.flags.voice * 4 + bit k.flags.status * 2 + bit k.flags.siren ≤ 15
  rest_small = omega (arith, bit_small (to_group k.target), bit_small k.flags.voice, bit_small k.flags.status, bit_small k.flags.siren)

  -- it is below 16 where the key does not call the current place
  pub flags_below : current k.target ≡ false → key_flags k < 16
  flags_below e = let z : bit (current k.target) ≡ 0 = ap bit e in omega (arith, rest_small)

  pub flags_above : current k.target ≡ true → 16 ≤ key_flags k
  flags_above e = let z : bit (current k.target) ≡ 1 = ap bit e in omega arith

  -- the byte of flags, and the address that is sent
  pub key_plain : KeyOk k → plain (body unicode16 (key k.target k.flags)) ≡ (key_flags k % 32 * 8) ∷ plain (key_address k.target)
  key_plain ok =
      let a = bit_small (current k.target) in
      let f : key_flags k < 32 = omega (arith, rest_small, a) in
      let fs : List Field = flag (current k.target) ∷ flag (to_group k.target) ∷ flag k.flags.voice ∷ flag k.flags.status ∷ flag k.flags.siren ∷ res 3 ∷ [] in
      plain_byte (key_flags k % 32 * 8) fs (key_address k.target) refl (omega arith) (omega arith) (address_whole k.target) (address_fits k.target ok)

-- it is written as its setting
pub key_wrote : (p : List ℕ) (at m end last : ℕ) (s t u : List ℕ) → Wrote ((get_or p 0 0 % 32 * 8) ∷ []) (at + 3) s t m
    → (get_or p 0 0 < 16 → last ≡ 4) → (16 ≤ get_or p 0 0 → last ≡ 1) → Wrote (mid_of 1 (last - 1) p) m t u end
    → (k : Key) → Kept KeyOk key_bytes p k
    → (type_byte (kind (key k.target k.flags)) ≡ 0xCB) × All FitsField (body unicode16 (key k.target k.flags))
    × Wrote (plain (body unicode16 (key k.target k.flags))) (at + 3) s u end
key_wrote p at m end last s t u v a b w k (ok, e) =
    let f : get_or p 0 0 ≡ key_flags k = ap (λ (l : List ℕ). get_or l 0 0) e in
    let x : mid_of 1 (last - 1) p ≡ plain (key_address k.target)
    = ap (mid_of 1 (last - 1)) e ∙ address_sent k.target ok (last - 1)
    (λ z. let y : last ≡ 4 = a (omega (arith, flags_below k z)) in omega arith)
    (λ z. let y : last ≡ 1 = b (omega (arith, flags_above k z)) in omega arith) in
    let y : ((get_or p 0 0 % 32 * 8) ∷ []) ++ mid_of 1 (last - 1) p ≡ plain (body unicode16 (key k.target k.flags))
    = ap₂ (λ (n : ℕ) (l : List ℕ). (n % 32 * 8) ∷ l) f x ∙ sym (key_plain k ok) in (
      refl,
      key_fits k ok,
      wrote_as (((get_or p 0 0 % 32 * 8) ∷ []) ++ mid_of 1 (last - 1) p) (plain (body unicode16 (key k.target k.flags))) (at + 3) end s u y
          (wrote_both ((get_or p 0 0 % 32 * 8) ∷ []) (mid_of 1 (last - 1) p) (at + 3) m end s t u v w),
    )

-- ---- the three

-- one after the other
pub three_wrote : (a b c : Setting) (at m n r : ℕ) (s t u v : List ℕ) → Wrote (canonical unicode16 a) at s t m → Wrote (canonical unicode16 b) m t u n
    → Wrote (canonical unicode16 c) n u v r → Wrote (canonical_all unicode16 (a ∷ b ∷ c ∷ [])) at s v r
three_wrote a b c at m n r s t u v x y z =
    let A : List ℕ = canonical unicode16 a in
    let B : List ℕ = canonical unicode16 b in
    let C : List ℕ = canonical unicode16 c in
    wrote_both A (B ++ (C ++ [])) at m r s t v x
    (wrote_both B (C ++ []) m n r t u v y (wrote_as C (C ++ []) n r u v (sym (append-nil C)) z))
