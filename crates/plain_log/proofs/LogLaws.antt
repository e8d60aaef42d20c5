-- The deeds of a log with one request more: where they stand, what they tell, and what the tables weigh. Assumes nothing.
use Rattle.lists.proofs.Kit.{ℕ, ◌<◌, ◌+◌, zero, suc, ◌≡◌, refl, sym, ap, ◌∙◌, subst, subst⁻¹, List, [], ◌∷◌, ◌++◌, append-nil, append_assoc, length, get_or, replicate, length-append, Option, some, arith}
use Rattle.lists.specs.Every.{All}
use Rattle.lists.proofs.Every.{all_append}
use Rattle.writing.specs.declared.Coding.{Coding}
use Rattle.writing.specs.declared.Kind.{Kind}
use Rattle.writing.specs.declared.Kind.TheVariants.{GroupContacts, IndividualContacts, Lines, Key, QuickTexts, Home, Channels, System, StatusTexts, Group, Individual, LineSlot, Last}
use Rattle.writing.specs.Ranges.{text_limits, InRange}
use Rattle.writing.specs.Settings.{Setting}
use Rattle.writing.proofs.CanonicalLaws.{has_writing}
use Rattle.tables.specs.declared.limits.Limits.{Limits}
use Rattle.tables.specs.Apply.{apply, and_then, in_turn}
use Rattle.tables.specs.Limits.{handheld}
use Rattle.tables.specs.Owns.{own}
use Rattle.tables.specs.Tables.{Tables, no_hash, fresh}
use Rattle.tables.specs.Texts.{text_size, text_sum}
use Rattle.requests.specs.Judge.{done, step, kept, taken}
use Rattle.requests.specs.Requests.{Runs, Judged, forget}
use Rattle.events.specs.Deeds.{Deed, nothing, all_deeds}
use Rattle.events.specs.Knowing.{Telling}
use Rattle.events.specs.Settings.{Indexed}
use Rattle.events.specs.Sums.{many}
use Rattle.events.proofs.InsideLaws.{fits_indexed}
use Rattle.events.proofs.TellingLaws.{telling_fresh, telling_nothing, telling_hash, telling_settings}
use Rattle.read_deeds.specs.Cursors.{log_deeds, RecordAt, Records}
use Rattle.plain_weigh.specs.Weighing.{Short}
use Rattle.plain_judge.specs.Judging.{Weights, Logged}

-- ---- where they stand

-- requests one after another, up to a place
abbrev pub RecordsTo : List ℕ → ℕ → List (List Setting) → ℕ → Type 0
RecordsTo s at [] end = at ≡ end
RecordsTo s at (l ∷ ls) end = (next : ℕ) × RecordAt s at l next × RecordsTo s next ls end

-- they are requests one after another
records_are : (s : List ℕ) (at : ℕ) (ls : List (List Setting)) (end : ℕ) → RecordsTo s at ls end → Records s at ls
records_are s at [] end h = tt
records_are s at (l ∷ ls) end (next, r, h) = (next, r, records_are s next ls end h)

-- and one more
pub records_more : (s : List ℕ) (at : ℕ) (ls : List (List Setting)) (mid : ℕ) (l : List Setting) (end : ℕ) → RecordsTo s at ls mid → RecordAt s mid l end → RecordsTo s at (ls ++ (l ∷ [])) end
records_more s at [] mid l end h r = (end, subst⁻¹ (λ (i : ℕ). RecordAt s i l end) h r, refl)
records_more s at (k ∷ ls) mid l end (next, q, h) r = (next, q, records_more s next ls mid l end h r)

-- ---- their deeds

-- those of one request more
pub deeds_more : (ls : List (List Setting)) (l : List Setting) → log_deeds (ls ++ (l ∷ [])) ≡ log_deeds ls ++ (nothing ∷ all_deeds l)
deeds_more [] l = ap (λ (d : List Deed). nothing ∷ d) (append-nil (all_deeds l))
deeds_more (k ∷ ls) l =
    ap (λ (d : List Deed). nothing ∷ all_deeds k ++ d) (deeds_more ls l) ∙ ap (λ (d : List Deed). nothing ∷ d) (sym (append_assoc (all_deeds k) (log_deeds ls) (nothing ∷ all_deeds l)))

-- ---- what they tell

-- the settings of a run are in range, of places that are there, and have room in turn
record RunTold (lim : Limits) (t : Tables) (l : List Setting) (u : Tables) : Type 0 where
  ranges : All (λ s. (left : ℕ) × InRange text_limits left s) l
  indexed : All Indexed l
  turn : in_turn (apply lim) l t ≡ some u

-- every run is such
run_told : (c : Coding) (lim : Limits) {n : ℕ} {t u : Tables} {bs rest : List ℕ} {l : List Setting} → Runs c lim n t bs l u rest → RunTold lim t l u
run_told c lim done = record { ranges = tt; indexed = tt; turn = refl }
run_told c lim (step {n} {w = w} {s = s} {l = l} p (x, _) i a q) =
    let r = run_told c lim q in
    record {
      ranges = ((n, i), r.ranges);
      indexed = (fits_indexed c n s i (has_writing c s w x), r.indexed);
      turn = ap (λ (o : Option Tables). and_then o (in_turn (apply lim) l)) a ∙ r.turn;
    }

-- the deeds of a request that was taken, behind the log's
told_more : (c : Coding) (n : ℕ) (bs : List ℕ) (ds : List Deed) (t u : Tables) (l : List Setting) → Judged c handheld n (forget t) bs (kept l u) → Telling handheld ds t → Telling handheld (ds ++ (nothing ∷ all_deeds l)) u
told_more c n bs ds t u l (taken e q) h =
    let r = run_told c handheld q in
    subst (λ (d : List Deed). Telling handheld d u) (append_assoc ds (nothing ∷ []) (all_deeds l))
    (telling_settings handheld (ds ++ (nothing ∷ [])) l (forget t) u (telling_nothing handheld ds (forget t) (telling_hash handheld ds t no_hash h)) r.ranges r.indexed r.turn)

-- so a log has them
pub logged_more : (s : List ℕ) (ls : List (List Setting)) (end k n i : ℕ) (c : Coding) (bs : List ℕ) (t u : Tables) (l : List Setting) → RecordsTo s 4 (ls ++ (l ∷ [])) end → Logged s n (log_deeds ls) t
    → Judged c handheld i (forget t) bs (kept l u) → k ≡ length (all_deeds l) → All Short (all_deeds l) → n + k + 1 < 0x40000000 → Logged s (n + k + 1) (log_deeds (ls ++ (l ∷ []))) u
logged_more s ls end k n i c bs t u l r g j e h few = record {
  follow = record { entries = []; settings = []; requests = ls ++ (l ∷ []); end = 4; parts = refl; left = (refl, refl); counted = refl; stands = refl; behind = records_are s 4 (ls ++ (l ∷ [])) end r };
  count = ap length (deeds_more ls l) ∙ length-append (log_deeds ls) (nothing ∷ all_deeds l) ∙ omega (arith, g.count, e);
  few = few;
  short = subst⁻¹ (All Short) (deeds_more ls l) (all_append Short (log_deeds ls) (nothing ∷ all_deeds l) g.short (tt, h));
  tells = subst⁻¹ (λ (d : List Deed). Telling handheld d u) (deeds_more ls l) (told_more c i bs (log_deeds ls) t u l j g.tells);
}

-- ---- without the hash

-- a log tells the tables without their hash
pub logged_forget : (s : List ℕ) (n : ℕ) (ds : List Deed) (t : Tables) → Logged s n ds t → Logged s n ds (forget t)
logged_forget s n ds t g = record { follow = g.follow; count = g.count; few = g.few; short = g.short; tells = telling_hash handheld ds t no_hash g.tells }

-- which weighs nothing
many_forget : (k : Kind) (t : Tables) → many k (own k t) ≡ many k (own k (forget t))
many_forget GroupContacts t = refl
many_forget IndividualContacts t = refl
many_forget Lines t = refl
many_forget Key t = refl
many_forget QuickTexts t = refl
many_forget Home t = refl
many_forget Channels t = refl
many_forget System t = refl
many_forget StatusTexts t = refl
many_forget Group t = refl
many_forget Individual t = refl
many_forget LineSlot t = refl
many_forget Last t = refl

-- nor do its texts
size_forget : (k : Kind) (t : Tables) → text_size k (own k t) ≡ text_size k (own k (forget t))
size_forget GroupContacts t = refl
size_forget IndividualContacts t = refl
size_forget Lines t = refl
size_forget Key t = refl
size_forget QuickTexts t = refl
size_forget Home t = refl
size_forget Channels t = refl
size_forget System t = refl
size_forget StatusTexts t = refl
size_forget Group t = refl
size_forget Individual t = refl
size_forget LineSlot t = refl
size_forget Last t = refl

-- so the numbers are those of the tables without it
pub weights_forget : (ws : List ℕ) (t : Tables) → Weights ws t → Weights ws (forget t)
weights_forget ws t w = record { all = w.all; entries = λ k. w.entries k ∙ many_forget k t; bytes = λ k. w.bytes k ∙ size_forget k t; sum = w.sum; room = w.room }

-- ---- no request

-- no request has no deeds
pub logged_none : (s : List ℕ) → Logged s 0 [] fresh
logged_none s = record {
  follow = record { entries = []; settings = []; requests = []; end = 4; parts = refl; left = (refl, refl); counted = refl; stands = refl; behind = tt };
  count = refl;
  few = omega arith;
  short = tt;
  tells = telling_fresh handheld;
}

-- a fresh set weighs nothing
many_fresh : (k : Kind) → many k (own k fresh) ≡ 0
many_fresh GroupContacts = refl
many_fresh IndividualContacts = refl
many_fresh Lines = refl
many_fresh Key = refl
many_fresh QuickTexts = refl
many_fresh Home = refl
many_fresh Channels = refl
many_fresh System = refl
many_fresh StatusTexts = refl
many_fresh Group = refl
many_fresh Individual = refl
many_fresh LineSlot = refl
many_fresh Last = refl

-- nor have its texts bytes
size_fresh : (k : Kind) → text_size k (own k fresh) ≡ 0
size_fresh GroupContacts = refl
size_fresh IndividualContacts = refl
size_fresh Lines = refl
size_fresh Key = refl
size_fresh QuickTexts = refl
size_fresh Home = refl
size_fresh Channels = refl
size_fresh System = refl
size_fresh StatusTexts = refl
size_fresh Group = refl
size_fresh Individual = refl
size_fresh LineSlot = refl
size_fresh Last = refl

-- so numbers that are all 0 are its
pub weights_none : (ws : List ℕ) → ws ≡ replicate 27 0 → Weights ws fresh
weights_none ws e =
    let zero_at : (i : ℕ) → get_or ws i 0 ≡ 0 = λ i. ap (λ (l : List ℕ). get_or l i 0) e ∙ zero_in 27 i in
    let none : text_sum fresh ≡ 0 = refl in
    record { all = ap length e; entries = λ k. zero_at _ ∙ sym (many_fresh k); bytes = λ k. zero_at _ ∙ sym (size_fresh k); sum = zero_at 26 ∙ sym none; room = omega (arith, none) }
  where
    -- every number of zeros is 0
    zero_in : (n i : ℕ) → get_or {A = ℕ} (replicate n 0) i 0 ≡ 0
    zero_in zero i = refl
    zero_in (suc n) zero = refl
    zero_in (suc n) (suc i) = zero_in n i
