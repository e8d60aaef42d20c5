-- The emergency key, the home numbers and the system code, read back from their bytes. Assumes nothing.
use Rattle.lists.proofs.Kit.{ℕ, ◌+◌, ◌*◌, ◌/◌, ◌%◌, ◌<◌, ◌≡◌, sym, ap, ◌∙◌, Bool, true, false, true≢false, List, some, arith, eqb, eq-eqb, ne_eqb, mid_of, get_or}
use Rattle.lists.specs.Ladder.{Answers}
use Rattle.slots.specs.Slots.{u16, u24}
use Rattle.writing.specs.declared.HomeNumbers.{HomeNumbers}
use Rattle.writing.specs.declared.KeyTarget.{KeyTarget}
use Rattle.writing.specs.declared.KeyTarget.TheVariants.{Current, ToGroup, ToIndividual}
use Rattle.writing.specs.declared.SystemCode.{SystemCode}
use Rattle.writing.specs.Writing.{bit, current, to_group}
use Rattle.tables.specs.declared.limits.Limits.{Limits}
use Rattle.tables.specs.Allowed.{SystemOk}
use Rattle.tables.specs.Layout.{key_address, key_bytes, key_flags, home_bytes, system_bytes, key_at, key_size, home_at, home_size, system_at, system_size}
use Rattle.tables.specs.Store.{StoreOf}
use Rattle.tables.specs.Tables.{Key}
use Rattle.tables.proofs.EntryCodes.{bit_small}
use Rattle.shared_texts.proofs.FormFrames.{key_stands, home_stands, system_stands}
use Rattle.std.specs.Prelude.{Some}
use Rattle.values.specs.declared.answers.EmergencyKey.{EmergencyKey}
use Rattle.values.specs.Values.{key_of, key_asked, home_asked, system_asked, held}
use Rattle.values.proofs.AskLaws.{is_given}

-- ---- bits

-- b is the lowest bit of n
abbrev pub Lowest : ℕ → Bool → Type 0
Lowest n r = (a : ℕ) (b : Bool) → n ≡ a * 2 + bit b → r ≡ b

pub lowest_is : (n : ℕ) → Lowest n (eqb (n % 2) 1)
lowest_is n a true e = eq-eqb (n % 2) 1 (omega arith)
lowest_is n a false e = ne_eqb (n % 2) 1 (λ h. omega arith)

-- ---- the key

-- where it calls is told by its two bits and its address
abbrev pub Calls : Bool → Bool → ℕ → KeyTarget → Type 0
Calls here group address r = (t : KeyTarget) → here ≡ current t → group ≡ to_group t → address ≡ key_address t → r ≡ t

module _ (here group : Bool) (address : ℕ) where
  pub calls_here : here ≡ true → Calls here group address (Current group)
  calls_here y (Current g) h e a = ap Current e
  calls_here y (ToGroup x) h e a = absurd (true≢false (sym y ∙ h))
  calls_here y (ToIndividual x) h e a = absurd (true≢false (sym y ∙ h))

  pub calls_group : here ≡ false → group ≡ true → Calls here group address (ToGroup (record { 0 = address }))
  calls_group n y (Current g) h e a = absurd (true≢false (sym h ∙ n))
  calls_group n y (ToGroup x) h e a = ap ToGroup (λ i. record { 0 = a i })
  calls_group n y (ToIndividual x) h e a = absurd (true≢false (sym y ∙ e))

  pub calls_individual : here ≡ false → group ≡ false → Calls here group address (ToIndividual (record { 0 = address }))
  calls_individual n m (Current g) h e a = absurd (true≢false (sym h ∙ n))
  calls_individual n m (ToGroup x) h e a = absurd (true≢false (sym e ∙ m))
  calls_individual n m (ToIndividual x) h e a = ap ToIndividual (λ i. record { 0 = a i })

-- a key's bits and its address are those of its bytes
pub key_read : (s : List ℕ) (here group voice status siren : Bool) (address : ℕ) (target : KeyTarget)
    → Lowest (get_or s 0 0 / 16) here → Lowest (get_or s 0 0 / 8) group → Lowest (get_or s 0 0 / 4) voice → Lowest (get_or s 0 0 / 2) status → Lowest (get_or s 0 0) siren
    → ((a : ℕ) → mid_of 1 3 s ≡ u24 a → address ≡ a) → Calls here group address target
    → (k : Key) → s ≡ key_bytes k → ◌≡◌ {A = EmergencyKey} (record { target = target; flags = record { voice = voice; status = status; siren = siren } }) (key_of k)
key_read s here group voice status siren address target p q x y z read calls k e =
    let n : get_or s 0 0 ≡ key_flags k = ap (λ (l : List ℕ). get_or l 0 0) e in
    let c = bit_small (current k.target) in
    let g = bit_small (to_group k.target) in
    let v = bit_small k.flags.voice in
    let u = bit_small k.flags.status in
    let w = bit_small k.flags.siren in
    let t : target ≡ k.target = calls k.target (p 0 (current k.target) (omega arith)) (q (bit (current k.target)) (to_group k.target) (omega arith)) (read (key_address k.target) (ap (mid_of 1 3) e)) in
    let a : voice ≡ k.flags.voice = x (bit (current k.target) * 2 + bit (to_group k.target)) k.flags.voice (omega arith) in
    let b : status ≡ k.flags.status = y (bit (current k.target) * 4 + bit (to_group k.target) * 2 + bit k.flags.voice) k.flags.status (omega arith) in
    let d : siren ≡ k.flags.siren = z (bit (current k.target) * 8 + bit (to_group k.target) * 4 + bit k.flags.voice * 2 + bit k.flags.status) k.flags.siren (omega arith) in
    (λ i. record { target = t i; flags = record { voice = a i; status = b i; siren = d i } })

-- ---- the numbers

-- two numbers of two bytes each
pub home_read : (s : List ℕ) (nzi np : ℕ) → ((a : ℕ) → mid_of 0 2 s ≡ u16 a → nzi ≡ a) → ((a : ℕ) → mid_of 2 2 s ≡ u16 a → np ≡ a)
    → (h : HomeNumbers) → s ≡ home_bytes h → ◌≡◌ {A = HomeNumbers} (record { nzi = nzi; np = np }) h
home_read s nzi np p q h e =
    let a : nzi ≡ h.nzi = p h.nzi (ap (mid_of 0 2) e) in
    let b : np ≡ h.np = q h.np (ap (mid_of 2 2) e) in
    (λ i. record { nzi = a i; np = b i })

-- one of two bytes, and three fields in one
pub system_read : (s : List ℕ) (lai : ℕ) (par : Bool) → ((a : ℕ) → mid_of 0 2 s ≡ u16 a → lai ≡ a) → Lowest (get_or s 2 0) par
    → (c : SystemCode) → SystemOk c → s ≡ system_bytes c → ◌≡◌ {A = SystemCode} (record { lai = lai; la = get_or s 2 0 / 8; roaming = get_or s 2 0 / 2 % 4; par = par }) c
system_read s lai par p q c ok e =
    let n : get_or s 2 0 ≡ c.la * 8 + c.roaming * 2 + bit c.par = ap (λ (l : List ℕ). get_or l 2 0) e in
    let u = bit_small c.par in
    let r : c.roaming < 3 = ok.roaming in
    let h : get_or s 2 0 / 2 ≡ c.la * 4 + c.roaming = omega arith in
    let a : lai ≡ c.lai = p c.lai (ap (mid_of 0 2) e) in
    let b : get_or s 2 0 / 8 ≡ c.la = omega arith in
    let d : get_or s 2 0 / 2 % 4 ≡ c.roaming = ap (λ (i : ℕ). i % 4) h ∙ omega arith in
    let f : par ≡ c.par = q (c.la * 4 + c.roaming) c.par (omega arith) in
    (λ i. record { lai = a i; la = b i; roaming = d i; par = f i })

-- ---- in a store

module _ (lim : Limits) (store : List ℕ) (s : StoreOf lim store) where
  pub key_answered : (r : EmergencyKey) → ((k : Key) → mid_of key_at key_size store ≡ key_bytes k → r ≡ key_of k) → Answers (key_asked lim store) (held (Some r))
  key_answered r f =
      is_given lim (λ t. some (key_of t.key)) store s r (λ t h. ap some (sym (f t.key (ap (mid_of key_at key_size) h.1 ∙ key_stands lim t h.0))))

  pub home_answered : (r : HomeNumbers) → ((h : HomeNumbers) → mid_of home_at home_size store ≡ home_bytes h → r ≡ h) → Answers (home_asked lim store) (held (Some r))
  home_answered r f =
      is_given lim (λ t. some t.home) store s r (λ t h. ap some (sym (f t.home (ap (mid_of home_at home_size) h.1 ∙ home_stands lim t h.0))))

  pub system_answered : (r : SystemCode) → ((c : SystemCode) → SystemOk c → mid_of system_at system_size store ≡ system_bytes c → r ≡ c) → Answers (system_asked lim store) (held (Some r))
  system_answered r f =
      is_given lim (λ t. some t.system) store s r (λ t h. ap some (sym (f t.system h.0.system (ap (mid_of system_at system_size) h.1 ∙ system_stands lim t h.0))))
