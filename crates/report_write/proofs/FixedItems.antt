-- The emergency key, home numbers, system code and kept hash are written from their slots. Assumes nothing.
use Rattle.lists.proofs.Kit.{ℕ, suc, ◌+◌, ◌-◌, ◌*◌, ◌/◌, ◌%◌, ◌≤◌, ◌≡◌, refl, sym, ap, ap₂, ◌∙◌, subst⁻¹, List, [], ◌∷◌, ◌++◌, map, mul_comm, arith, eq-eqb, ne_eqb, cond, Bool, none, some, mid_of, mid_len, length, get_or, replicate, take, take_all, take_at}
use Rattle.lists.specs.Every.{All}
use Rattle.slots.specs.Slots.{u24}
use Rattle.slots.proofs.Pads.{pad_is}
use Rattle.writing.specs.Canonical.{side_by_side, plain, FitsField}
use Rattle.writing.specs.Fields.{Field, val, res}
use Rattle.writing.specs.Ranges.{HashSize, no_hash, hash_4, hash_10}
use Rattle.writing.specs.Settings as S
use Rattle.writing.specs.Settings.{Hash, unicode16}
use Rattle.writing.specs.Writing.{bit, flag, current, to_group, body}
use Rattle.writing.proofs.Bits.{widths_map}
use Rattle.writing.proofs.Lengths.{small_size}
use Rattle.tables.specs.Allowed.{TargetOk, HashOk}
use Rattle.tables.specs.Layout.{key_bytes, key_flags, key_address, hash_bytes}
use Rattle.tables.specs.Tables.{Key}
use Rattle.tables.proofs.EntryCodes.{bit_small}
use Rattle.export_write.specs.FixedWriters.{home_bits, system_bits}
use Rattle.export_write.specs.Writers.{Wrote}
use Rattle.export_write.proofs.FixedWriting.{home_three, system_three}
use Rattle.export_write.proofs.PlainLaws.{plain_byte}
use Rattle.export_write.proofs.WroteLaws.{wrote_both, wrote_length}
use Rattle.reports.specs.declared.Asked.TheVariants.{Key as AKey, Home, System, Hash as AHash}
use Rattle.reports.specs.Items.{key, hash, item_bytes}
use Rattle.reports.proofs.Sizes.{item_fits}
use Rattle.report_write.specs.ItemWriters.{WritesEntry, ValueEnd, item_most}
use Rattle.report_write.proofs.HeadLaws.{headed_plain, three_plain, bits_plain, bytes_writes}

-- ---- the emergency key

-- of the bytes that keep it
abbrev pub key_item : List ℕ → List ℕ
key_item s = 0x8B ∷ 0 ∷ (get_or s 0 0 / 8 % 2 * 128 + get_or s 0 0 / 16 % 2 * 64 + get_or s 0 0 % 8 * 8) ∷ get_or s 1 0 ∷ get_or s 2 0 ∷ get_or s 3 0 ∷ []

-- voice, status and siren stand in one order in both; current and group do not
abbrev last_flags : Key → ℕ
last_flags k = bit k.flags.voice * 4 + bit k.flags.status * 2 + bit k.flags.siren

last_small : (k : Key) → last_flags k ≤ 7
last_small k = omega (arith, bit_small k.flags.voice, bit_small k.flags.status, bit_small k.flags.siren)

key_bits : (c g w F : ℕ) → c ≤ 1 → g ≤ 1 → w ≤ 7 → F ≡ c * 16 + g * 8 + w → F / 8 % 2 * 128 + F / 16 % 2 * 64 + F % 8 * 8 ≡ g * 128 + c * 64 + w * 8
key_bits c g w F h k l e =
    let x : F / 8 % 2 ≡ g = omega arith in
    let y : F / 16 % 2 ≡ c = omega arith in
    let z : F % 8 ≡ w = omega arith in
    (λ i. x i * 128 + y i * 64 + z i * 8)

module _ (k : Key) (ok : TargetOk k.target) where
  flagged_plain : (v : ℕ) → v ≡ bit (to_group k.target) * 128 + bit (current k.target) * 64 + last_flags k * 8 → 0x8B ∷ 0 ∷ v ∷ u24 (key_address k.target) ≡ item_bytes (key k)
  flagged_plain v e =
      let a : ℕ = key_address k.target in
      let fs : List Field = flag (to_group k.target) ∷ flag (current k.target) ∷ flag k.flags.voice ∷ flag k.flags.status ∷ flag k.flags.siren ∷ res 3 ∷ [] in
      let x : side_by_side fs / 1 % 256 ≡ v = omega (arith, last_small k, bit_small (current k.target), bit_small (to_group k.target)) in
      let fits = (item_fits (key k) ok).1.1.1 in
      sym (headed_plain 0x8B 1 fs (val 24 a ∷ []) (v ∷ []) (omega arith) refl (λ i. x i ∷ []) (3, refl) fits fits.1.1.1.1.1.1
      ∙ ap (λ (y : List ℕ). 0x8B ∷ 0 ∷ v ∷ y) (three_plain a (val 24 a ∷ []) refl (omega arith) fits.1.1.1.1.1.1.0))

  key_plain : key_item (key_bytes k) ≡ item_bytes (key k)
  key_plain =
      flagged_plain _
      (key_bits (bit (current k.target)) (bit (to_group k.target)) (last_flags k) (key_flags k) (bit_small (current k.target)) (bit_small (to_group k.target)) (last_small k) (omega arith))

pub key_writes : (s before after : List ℕ) (r : ℕ) → Wrote (key_item s) 0 before after r → WritesEntry AKey s 0 0 before after r
key_writes s before after r w = bytes_writes AKey s 0 0 r before after (key_item s) (omega arith) w (λ k h. ap key_item h.2 ∙ key_plain k h.1)

-- ---- home numbers and the system code

pub home_writes : (s before after : List ℕ) (bits r : ℕ) → bits ≡ home_bits s → Wrote (0x8D ∷ 0 ∷ u24 bits) 0 before after r → WritesEntry Home s 0 0 before after r
home_writes s before after bits r e w =
    bytes_writes Home s 0 0 r before after (0x8D ∷ 0 ∷ u24 bits) (omega arith) w
    (λ h k. let t = home_three s bits e h (k.1, k.2) in bits_plain 0x8D bits (body unicode16 (S.home h)) (omega arith) t.wide t.are t.small t.fits)

pub system_writes : (s before after : List ℕ) (bits r : ℕ) → bits ≡ system_bits s → Wrote (0x8F ∷ 0 ∷ u24 bits) 0 before after r → WritesEntry System s 0 0 before after r
system_writes s before after bits r e w =
    bytes_writes System s 0 0 r before after (0x8F ∷ 0 ∷ u24 bits) (omega arith) w
    (λ c k. let t = system_three s bits e c (k.1, k.2) in bits_plain 0x8F bits (body unicode16 (S.system c)) (omega arith) t.wide t.are t.small t.fits)

-- ---- the kept hash

-- where its value ends
sized : {code n : ℕ} → HashSize code n → (code ≡ 0 → ⊥) → (code ≡ 1 → 5 ≡ 1 + n) × ((code ≡ 1 → ⊥) → 11 ≡ 1 + n)
sized no_hash z = absurd (z refl)
sized hash_4 z = (λ e. refl, λ e. absurd (e refl))
sized hash_10 z = (λ e. absurd (omega arith), λ e. refl)

pub ends_five : (code : ℕ) → code ≡ 1 → ValueEnd code 5
ends_five code e = (omega arith, λ n h z. (sized h z).0 e)

pub ends_eleven : (code : ℕ) → (code ≡ 1 → ⊥) → ValueEnd code 11
ends_eleven code e = (omega arith, λ n h z. (sized h z).1 e)

-- bytes are fields of 8 bits
values_plain : (vs : List ℕ) → All FitsField (map (val 8) vs) → plain (map (val 8) vs) ≡ vs
values_plain [] h = refl
values_plain (b ∷ vs) h =
    plain_byte b (val 8 b ∷ []) (map (val 8) vs) refl (omega arith) h.0 (length vs, widths_map (val 8) 8 (λ v. refl) vs ∙ mul_comm (length vs) 8) h.1
    ∙ ap (λ (x : List ℕ). b ∷ x) (values_plain vs h.1)

-- none is kept
pub no_hash_writes : (s before after : List ℕ) (r : ℕ) → get_or s 0 0 ≡ 0 → Wrote (0xBF ∷ 0 ∷ []) 0 before after r → WritesEntry AHash s 0 0 before after r
no_hash_writes s before after r z w =
    bytes_writes AHash s 0 0 r before after (0xBF ∷ 0 ∷ []) (omega arith) w
    (λ h k.
    let c : h.code ≡ 0 = sym (ap (λ (x : List ℕ). get_or x 0 0) k.2) ∙ z in
    ap (λ (b : Bool). item_bytes (hash (cond b none (some h)))) (sym (eq-eqb h.code 0 c)))

-- its bytes in the slot
value_kept : (h : Hash) (end : ℕ) → HashOk h → end ≡ 1 + length h.value → take (end - 0) (hash_bytes h) ≡ h.code ∷ h.value
value_kept h end ok e =
    let n : ℕ = length h.value in
    let k : end - 0 ≡ suc n = omega arith in
    let l : n ≤ 10 = small_size ok.size in
    ap₂ take k (ap (λ (x : List ℕ). h.code ∷ x) (pad_is 0 10 h.value ∙ ap (λ (x : List ℕ). x ++ replicate (10 - n) 0) (take_all 10 h.value l)))
    ∙ ap (λ (x : List ℕ). h.code ∷ x) (take_at h.value (replicate (10 - n) 0) n refl)

-- one is kept
pub hash_writes : (s before t after : List ℕ) (end m r : ℕ) → length s ≡ 11 → item_most ≤ length before → (get_or s 0 0 ≡ 0 → ⊥) → ValueEnd (get_or s 0 0) end → Wrote (0xBF ∷ 1 ∷ []) 0 before t m
    → (m + length (mid_of 0 (end - 0) s) ≤ length t → Wrote (mid_of 0 (end - 0) s) m t after r) → WritesEntry AHash s 0 0 before after r
hash_writes s before t after end m r l room z (few, ends) a b =
    let i = mid_len 0 end s (omega arith) in
    bytes_writes AHash s 0 0 r before after (0xBF ∷ 1 ∷ mid_of 0 (end - 0) s) (omega (arith, i))
    (wrote_both (0xBF ∷ 1 ∷ []) (mid_of 0 (end - 0) s) 0 m r before t after a (b (omega (arith, i, a.next, wrote_length (0xBF ∷ 1 ∷ []) 0 m before t a))))
    (λ h k.
    let c : get_or s 0 0 ≡ h.code = ap (λ (x : List ℕ). get_or x 0 0) k.2 in
    let e : end ≡ 1 + length h.value = ends (length h.value) (subst⁻¹ (λ (x : ℕ). HashSize x (length h.value)) c k.1.size) z in
    ap (λ (x : List ℕ). 0xBF ∷ 1 ∷ take (end - 0) x) k.2 ∙ ap (λ (x : List ℕ). 0xBF ∷ 1 ∷ x) (value_kept h end k.1 e)
    ∙ sym (values_plain (0xBF ∷ 1 ∷ h.code ∷ h.value) (item_fits (hash (some h)) (k.1, λ q. z (c ∙ q))))
    ∙ ap (λ (y : Bool). item_bytes (hash (cond y none (some h)))) (sym (ne_eqb h.code 0 (λ q. z (c ∙ q)))))
