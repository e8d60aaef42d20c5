-- The bytes of the regions that are no tables: hash, emergency key, home numbers and system code. Assumes nothing.
use Rattle.lists.proofs.Kit.{suc, ◌+◌, ◌*◌, ◌≡◌, refl, sym, ap, Bool, true≢false, head-eq_of_cons-eq, tail-eq_of_cons-eq, arith}
use Rattle.lists.proofs.Seqs.{cut}
use Rattle.slots.specs.Slots.{u16}
use Rattle.slots.proofs.Codes.{Code}
use Rattle.slots.proofs.Numbers.{u16_one, u24_one}
use Rattle.slots.proofs.Pads.{pad_length, pad_same}
use Rattle.writing.specs.declared.KeyTarget.{KeyTarget}
use Rattle.writing.specs.declared.KeyTarget.TheVariants.{Current, ToGroup, ToIndividual}
use Rattle.writing.specs.declared.HomeNumbers.{HomeNumbers}
use Rattle.writing.specs.declared.SystemCode.{SystemCode}
use Rattle.writing.specs.Settings.{Hash}
use Rattle.writing.specs.Writing.{bit, current, to_group}
use Rattle.read_fields.proofs.HashLaws.{one_size, small_size}
use Rattle.tables.specs.Allowed.{HashOk, HomeOk, SystemOk, TargetOk}
use Rattle.tables.specs.Layout.{hash_bytes, key_bytes, key_address, home_bytes, system_bytes}
use Rattle.tables.specs.Tables.{Key}
use Rattle.tables.proofs.EntryCodes.{both_small, bit_one}

-- ---- the hash

-- the bytes tell the hash
hash_one : (a b : Hash) → HashOk a → HashOk b → hash_bytes a ≡ hash_bytes b → a ≡ b
hash_one a b p q e =
    let c : a.code ≡ b.code = head-eq_of_cons-eq e in
    let v = pad_same 0 10 a.value b.value (one_size p.size (rw (← c) at q.size)) (small_size p.size) (tail-eq_of_cons-eq e) in
    (λ i. record { code = c i; value = v i })

-- the kept hash's bytes
pub hash_code : Code HashOk 11 hash_bytes
hash_code = record { long = λ h. ap suc (pad_length 0 10 h.value); one = hash_one }

-- ---- the emergency key

-- where the key calls is told by current, group and the address
target_one : (t u : KeyTarget) → current t ≡ current u → to_group t ≡ to_group u → key_address t ≡ key_address u → t ≡ u
target_one (Current g) (Current h) c d e = ap Current d
target_one (Current g) (ToGroup y) c d e = absurd (true≢false c)
target_one (Current g) (ToIndividual y) c d e = absurd (true≢false c)
target_one (ToGroup x) (Current h) c d e = absurd (true≢false (sym c))
target_one (ToGroup x) (ToGroup y) c d e = ap ToGroup (λ i. record { 0 = e i })
target_one (ToGroup x) (ToIndividual y) c d e = absurd (true≢false d)
target_one (ToIndividual x) (Current h) c d e = absurd (true≢false (sym c))
target_one (ToIndividual x) (ToGroup y) c d e = absurd (true≢false (sym d))
target_one (ToIndividual x) (ToIndividual y) c d e = ap ToIndividual (λ i. record { 0 = e i })

-- five flags in one byte
flags_one : (a b c d e f g h i j : Bool) → bit a * 16 + bit b * 8 + bit c * 4 + bit d * 2 + bit e ≡ bit f * 16 + bit g * 8 + bit h * 4 + bit i * 2 + bit j → (a ≡ f) × (b ≡ g) × (c ≡ h) × (d ≡ i) × (e ≡ j)
flags_one a b c d e f g h i j q =
    let k = both_small a f in
    let l = both_small b g in
    let m = both_small c h in
    let n = both_small d i in
    let o = both_small e j in
    (bit_one a f (omega arith), bit_one b g (omega arith), bit_one c h (omega arith), bit_one d i (omega arith), bit_one e j (omega arith))

-- the bytes tell the key
key_one : (a b : Key) → key_bytes a ≡ key_bytes b → a ≡ b
key_one a b e =
    let r = flags_one (current a.target) (to_group a.target) a.flags.voice a.flags.status a.flags.siren
    (current b.target) (to_group b.target) b.flags.voice b.flags.status b.flags.siren (head-eq_of_cons-eq e) in
    let t = target_one a.target b.target r.0 r.1 (u24_one (key_address a.target) (key_address b.target) (tail-eq_of_cons-eq e)) in
    let v = r.2 in
    let s = r.3 in
    let w = r.4 in
    (λ i. record { target = t i; flags = record { voice = v i; status = s i; siren = w i } })

-- the emergency key's bytes
pub key_code : Code (λ k. TargetOk k.target) 4 key_bytes
key_code = record { long = λ k. refl; one = λ a b p q e. key_one a b e }

-- ---- home numbers

-- the bytes tell the home numbers
home_one : (a b : HomeNumbers) → home_bytes a ≡ home_bytes b → a ≡ b
home_one a b e =
    let r = cut (u16 a.nzi) (u16 b.nzi) refl e in
    let z = u16_one a.nzi b.nzi r.0 in
    let n = u16_one a.np b.np r.1 in
    (λ i. record { nzi = z i; np = n i })

-- the home numbers' bytes
pub home_code : Code HomeOk 4 home_bytes
home_code = record { long = λ h. refl; one = λ a b p q e. home_one a b e }

-- ---- the system code

-- the bytes tell the system code
system_one : (a b : SystemCode) → SystemOk a → SystemOk b → system_bytes a ≡ system_bytes b → a ≡ b
system_one a b p q e =
    let r = cut (u16 a.lai) (u16 b.lai) refl e in
    let l = u16_one a.lai b.lai r.0 in
    let s : a.la * 8 + a.roaming * 2 + bit a.par ≡ b.la * 8 + b.roaming * 2 + bit b.par = head-eq_of_cons-eq r.1 in
    let x = both_small a.par b.par in
    let la : a.la ≡ b.la = omega (arith, p.roaming, q.roaming) in
    let ro : a.roaming ≡ b.roaming = omega (arith, p.roaming, q.roaming) in
    let pa = bit_one a.par b.par (omega arith) in
    (λ i. record { lai = l i; la = la i; roaming = ro i; par = pa i })

-- the system code's bytes
pub system_code : Code SystemOk 3 system_bytes
system_code = record { long = λ s. refl; one = system_one }
