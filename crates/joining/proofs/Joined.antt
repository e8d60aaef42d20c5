-- Two requests under one header are again a request that may be joined. Assumes nothing.
use Rattle.lists.proofs.Kit.{ℕ, sym, ap, ◌∙◌, subst, List, [], ◌∷◌, ◌++◌, append_assoc, length-append}
use Rattle.lists.proofs.Every.{all_append}
use Rattle.writing.specs.declared.Coding.{Coding}
use Rattle.writing.specs.Carrier.{RequestOf}
use Rattle.writing.specs.Ranges.{text_limits, InRange}
use Rattle.writing.specs.Settings.{Setting}
use Rattle.writing.specs.Writing.{WrittenAll}
use Rattle.joining.specs.Joining.{Joinable, JoinedAs}

-- settings, and then others, are written as the bytes of both
written_both : (c : Coding) (a b : List Setting) (x y : List ℕ) → WrittenAll c a x → WrittenAll c b y → WrittenAll c (a ++ b) (x ++ y)
written_both c [] b x y e q = subst (λ (z : List ℕ). WrittenAll c b (z ++ y)) (sym e) q
written_both c (s ∷ a) b x y (v, r, e, w, p) q = (v, r ++ y, ap (λ (z : List ℕ). z ++ y) e ∙ append_assoc v r y, w, written_both c a b r y p q)

-- JOINED JOINABLE: the joined request is one of both lists of settings, which may be joined
pub joined_joinable : {most : ℕ} {c : Coding} {a b : List Setting} {x y first second joined : List ℕ} → Joinable most c a x first → Joinable most c b y second
    → JoinedAs most c a b x y joined → Joinable most c (a ++ b) (x ++ y) joined
joined_joinable {c = c} {a = a} {b = b} {x = x} {y = y} {joined = joined} f g j = record {
  size = j.size;
  request = subst (λ (n : ℕ). RequestOf c n (x ++ y) joined) (sym (length-append a b)) j.request;
  written = written_both c a b x y f.written g.written;
  in_range = all_append (InRange text_limits 1) a b f.in_range g.in_range;
}
