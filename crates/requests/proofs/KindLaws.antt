-- Which working copy a request needs: the kinds of the settings that stand in its bytes. Assumes nothing.
use Rattle.lists.proofs.Kit.{ℕ, suc, ◌+◌, ◌-◌, ◌≤◌, ◌<◌, ◌≡◌, refl, sym, ap, ◌∙◌, subst, List, ◌++◌, true, arith, length, get_or, drop, length-append, length-drop, drop-cons, drop-drop, drop_at}
use Rattle.lists.proofs.Bytes.{bytes_all}
use Rattle.writing.specs.declared.Coding.{Coding}
use Rattle.writing.specs.declared.Kind.{Kind}
use Rattle.writing.specs.Settings.{Setting, kind}
use Rattle.writing.proofs.Unique.{unique}
use Rattle.writing.proofs.Whole.{length_written, headed}
use Rattle.read_fields.specs.Places.{StandsAt}
use Rattle.read_setting.specs.SettingAt.{SettingAt}
use Rattle.std.specs.Prelude.{Ok, Err}
use Rattle.read_setting.specs.declared.reader.SettingFault.{SettingFault}
use Rattle.read_setting.specs.declared.reader.SettingFault.TheVariants.{Missing, Unknown, Field as BadField}
use Rattle.settings.specs.declared.settings.Setting.{Setting as Read}
use Rattle.working.specs.Parts.{copied?}
use Rattle.requests.specs.Parts.{OnlyOf}
use Rattle.requests.specs.Trying.{read_kind}
use Rattle.requests.proofs.TryLaws.{meant_kind}

-- ---- the kinds of a request's settings

module _ (c : Coding) (k : Kind) (m : List ℕ) (left p : ℕ) where
  -- what was read there is no setting in range: no byte, no type, no fields
  only_missing : SettingAt c left m p (Err Missing) → OnlyOf c k (suc left) (drop p m)
  only_missing h = λ s w r e x i.
      let l = length_written c s w x.0 in
      let d : length m - p ≡ length (w ++ r) = sym (length-drop p m) ∙ ap length e in
      absurd (omega (arith, h, l, d, length-append w r))

  only_unknown : SettingAt c left m p (Err Unknown) → OnlyOf c k (suc left) (drop p m)
  only_unknown h = λ s w r e x i.
      let (b, v, f, q) = headed c s w (bytes_all w x.1) x.0 in
      let g : b ≡ get_or m p 0 = ap (λ (l : List ℕ). get_or l 0 0) (ap (λ (l : List ℕ). l ++ r) (sym f) ∙ sym e ∙ drop-cons m p 0 h.0) in
      absurd (h.1 (kind s) (sym q ∙ g))

  only_field : SettingAt c left m p (Err BadField) → OnlyOf c k (suc left) (drop p m)
  only_field (_, _, _, never) = λ s w r e x i. absurd (never s (p + length w) i (record { bytes = w; rest = r; split = e; ends = refl; written = x.0 }))

  pub only_fault : (f : SettingFault) → SettingAt c left m p (Err f) → OnlyOf c k (suc left) (drop p m)
  only_fault Missing h = only_missing h
  only_fault Unknown h = only_unknown h
  only_fault BadField h = only_field h

  -- a setting of these kinds stands there, and the others behind it
  pub only_one : (next : ℕ) (s : Setting) → StandsAt c m p next s → copied? k (kind s) ≡ true → OnlyOf c k left (drop next m) → OnlyOf c k (suc left) (drop p m)
  only_one next s x e o = λ t w r q y i.
      let (a, b) = unique c s t x.bytes w x.rest r x.written y.0 (sym x.split ∙ q) in
      let f : drop next m ≡ r
      = ap (λ (j : ℕ). drop j m) x.ends ∙ sym (drop-drop (length x.bytes) p m) ∙ ap (drop (length x.bytes)) (q ∙ ap (λ (l : List ℕ). l ++ r) (sym b))
      ∙ drop_at x.bytes r (length x.bytes) refl in
      (subst (λ (j : Setting). copied? k (kind j) ≡ true) a e, subst (OnlyOf c k left) f o)

module _ (c : Coding) (k : Kind) (m : List ℕ) (count at seen p : ℕ) where
  -- the settings before p are of these kinds
  abbrev pub UpTo : Type 0
  UpTo = OnlyOf c k (count - seen) (drop p m) → OnlyOf c k count (drop at m)

  -- where nothing good follows, all are
  pub up_to_fault : UpTo → seen < count → OnlyOf c k (suc (count - seen - 1)) (drop p m) → OnlyOf c k count (drop at m)
  up_to_fault f h o =
      let e : suc (count - seen - 1) ≡ count - seen = omega arith in
      f (subst (λ (n : ℕ). OnlyOf c k n (drop p m)) e o)

  -- and where all were looked at
  pub up_to_end : UpTo → count ≤ seen → OnlyOf c k count (drop at m)
  up_to_end f h =
      let e : 0 ≡ count - seen = omega arith in
      f (subst (λ (n : ℕ). OnlyOf c k n (drop p m)) e tt)

-- one more is
pub up_to_next : (c : Coding) (k : Kind) (m : List ℕ) (count at seen p next : ℕ) (r : Read) → UpTo c k m count at seen p → seen < count → SettingAt c (count - seen - 1) m p (Ok (r, next))
    → copied? k (read_kind r) ≡ true → UpTo c k m count at (seen + 1) next
up_to_next c k m count at seen p next r f h (s, means, i, stands) e o =
    let g : count - (seen + 1) ≡ count - seen - 1 = omega arith in
    up_to_fault c k m count at seen p f h
    (only_one c k m (count - seen - 1) p next s stands (ap (copied? k) (meant_kind m r s means) ∙ e) (subst (λ (n : ℕ). OnlyOf c k n (drop next m)) g o))
