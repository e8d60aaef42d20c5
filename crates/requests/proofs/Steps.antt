-- One setting of a request after another, as the code takes them on its working copy. Assumes nothing.
use Rattle.lists.proofs.Kit.{ℕ, suc, ◌+◌, ◌-◌, ◌≤◌, ◌<◌, ◌≡◌, refl, sym, ap, ◌∙◌, subst, List, [], ◌∷◌, ◌++◌, arith, length, drop, length-append, length-drop, drop_of_length-le, drop-cons}
use Rattle.lists.specs.Bytes.{Bytes}
use Rattle.std.specs.Prelude.{Some, None, Ok, Err}
use Rattle.writing.specs.declared.Coding.{Coding}
use Rattle.writing.specs.declared.LastFlags.{LastFlags}
use Rattle.writing.specs.declared.CfgResult.TheVariants.{NoRoom}
use Rattle.writing.specs.Canonical.{Fits}
use Rattle.writing.specs.Settings.{Setting}
use Rattle.writing.proofs.CanonicalLaws.{has_writing}
use Rattle.writing.proofs.Whole.{length_written}
use Rattle.settings.specs.declared.settings.Setting.{Setting as Read}
use Rattle.read_fields.specs.Places.{StandsAt}
use Rattle.read_setting.specs.SettingAt.{SettingAt}
use Rattle.tables.specs.declared.limits.Limits.{Limits}
use Rattle.tables.specs.Allowed.{Allowed}
use Rattle.tables.specs.Store.{Works}
use Rattle.tables.specs.Tables.{Tables}
use Rattle.tables.proofs.AllowedLaws.{allowed_within, apply_room}
use Rattle.requests.specs.Judge.{done, taken, over, fault, refused}
use Rattle.requests.specs.Running.{FlagsAre, Stepped, StepIs, Ran}
use Rattle.requests.specs.Requests.{Runs, Fault, Judged, LastItem, last_item}
use Rattle.requests.specs.Trying.{SumIs, TryIs}
use Rattle.requests.proofs.RunLaws.{one_more, item_end, stands_in, at_full}

module _ (c : Coding) (lim : Limits) (m : List ℕ) where
  -- ---- one setting

  module _ (b : Bytes m) (left at : ℕ) (s t : List ℕ) where
    -- a setting that stands there has a byte there
    stands_within : (x : Setting) (next : ℕ) → StandsAt c m at next x → at < length m
    stands_within x next y =
        let n : length y.bytes ≡ suc _ = length_written c x y.bytes y.written in
        let e : length m - at ≡ length (y.bytes ++ y.rest) = sym (length-drop at m) ∙ ap length y.split in
        omega (arith, n, e, length-append y.bytes y.rest)

    -- a setting that was read fits its fields, since it is written
    fits : (x : Setting) (next : ℕ) → StandsAt c m at next x → Fits c x
    fits x next y = has_writing c x y.bytes y.written

    pub step_taken : (r : Read) (next sum n : ℕ) (f : LastFlags) → SettingAt c left m at (Ok (r, next)) → FlagsAre r f
        → TryIs lim m r sum s t (Some n) → StepIs c lim left m at sum s t (Ok (record { next = next; flags = f; sum = n }))
    step_taken r next sum n f (x, means, i, stands) g a was roomy holds is =
        let (u, q, h, e) = a was x c left roomy holds is means i (fits x next stands) in
        record { setting = x; tables = u; range = i; stands = stands; applied = q; holds = h; summed = e; flags = g m x means }

    pub step_full : (r : Read) (next sum : ℕ) → SettingAt c left m at (Ok (r, next)) → TryIs lim m r sum s t None → StepIs c lim left m at sum s t (Err NoRoom)
    step_full r next sum (x, means, i, stands) a was roomy holds is =
        at_full c lim m b left was at x next (stands_within x next stands) i stands (a was x c left roomy holds is means i (fits x next stands))

  -- ---- all of them

  module _ (count at : ℕ) (was : Tables) where
    -- so many settings were taken, up to the place p
    pub record Along (work : List ℕ) (p n : ℕ) (f : LastFlags) (sum : ℕ) : Type 0 where
      pub settings : List Setting
      pub tables : Tables
      pub allowed : Allowed lim tables
      pub counted : length settings ≡ n
      pub runs : Runs c lim count was (drop at m) settings tables (drop p m)
      pub holds : Works lim tables work
      pub summed : SumIs lim sum tables
      pub flags : f ≡ (last_item settings).flags

    pub along_start : (work : List ℕ) (sum : ℕ) → Allowed lim was → Works lim was work → SumIs lim sum was → Along work at 0 (last_item []).flags sum
    along_start work sum ok h e = record { settings = []; tables = was; allowed = ok; counted = refl; runs = done; holds = h; summed = e; flags = refl }

    module _ (work : List ℕ) (p n : ℕ) (f : LastFlags) (sum : ℕ) (l : Along work p n f sum) where
      -- one setting more
      pub along_on : Bytes m → (t : List ℕ) (next : ℕ) (g : LastFlags) (k : ℕ) → n < count → Stepped c lim (count - n - 1) m p next l.tables t g k → Along t next (n + 1) g k
      along_on b t next g k h z =
          let (w, e, q) = stands_in c lim m b (count - n - 1) was p z.setting next z.stands in
          let d : length l.settings ≡ n = l.counted in
          let more : length (l.settings ++ (z.setting ∷ [])) ≡ n + 1 = length-append l.settings (z.setting ∷ []) ∙ omega arith in
          record {
            settings = l.settings ++ (z.setting ∷ []);
            tables = z.tables;
            allowed = allowed_within lim z.tables z.holds.0 (apply_room lim z.setting l.tables z.tables z.applied);
            counted = more;
            runs = one_more c lim (count - n - 1) z.setting w (drop next m) l.runs (omega arith) e q z.range z.applied;
            holds = z.holds;
            summed = z.summed;
            flags = z.flags ∙ sym (ap (λ (x : LastItem). x.flags) (item_end c lim l.runs (omega arith) z.setting));
          }

      -- the next is at fault
      pub along_fault : (number : ℕ) → n < count → Fault c lim (count - n - 1) l.tables (drop p m) number → Judged c lim count was (drop at m) (refused number (n + 1))
      along_fault number h z =
          let d : length l.settings ≡ n = l.counted in
          subst (λ (k : ℕ). Judged c lim count was (drop at m) (refused number (k + 1))) d (fault (count - n - 1) (omega arith) l.runs z)

      -- bytes are left over
      pub along_over : count ≤ n → n ≤ count → p < length m → Judged c lim count was (drop at m) (refused 4 0)
      along_over x y h =
          let d : length l.settings ≡ n = l.counted in
          let q = subst (λ (r : List ℕ). Runs c lim count was (drop at m) l.settings l.tables r) (drop-cons m p 0 h) l.runs in
          over {l = l.settings} (omega arith) q

      -- none are
      pub along_end : count ≤ n → n ≤ count → length m ≤ p → Ran c lim count m at was work f
      along_end x y h =
          let d : length l.settings ≡ n = l.counted in
          let q = subst (λ (r : List ℕ). Runs c lim count was (drop at m) l.settings l.tables r) (drop_of_length-le m h) l.runs in
          record { settings = l.settings; tables = l.tables; allowed = l.allowed; judged = taken {l = l.settings} (omega arith) q; holds = l.holds; flags = l.flags }
