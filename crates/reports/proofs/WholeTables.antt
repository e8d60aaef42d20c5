-- TABLES BACK: whole reports that are the same say that every table asked for is, up to the first unknown type. Assumes nothing.
use Prim.Native.Nat.{ℕ, zero, suc, ◌*◌, ◌/◌, ◌≤◌}
use mathlib.Core.Path.{◌≡◌, refl, sym, ap, ap₂, ◌∙◌, subst⁻¹}
use mathlib.Core.Bool.{Bool, true, false, cond}
use mathlib.Core.List.{List, [], ◌∷◌, ◌++◌}
use mathlib.Core.Option.{Option, none, some}
use native.Mathlib.Nat.{mul-div_cancel_left}
use native.Mathlib.Omega.{arith}
use borrow.Author.Tests.{eqb-true}
use lib.Dec.{eqb}
use lib.ListN.{length, length-append}
use Rattle.lists.specs.Every.{All}
use Rattle.lists.proofs.Every.{all_made}
use Rattle.lists.proofs.Seqs.{cut}
use Rattle.tables.specs.declared.limits.Limits.{Limits}
use Rattle.tables.specs.Allowed.{Allowed}
use Rattle.tables.specs.Owns.{own}
use Rattle.tables.specs.Tables.{Tables}
use Rattle.reports.specs.declared.Asked.{Asked}
use Rattle.reports.specs.declared.Asked.TheVariants.{Groups, Individuals, Lines, Key as AKey, QuickTexts, Home, Channels, System, StatusTexts, Hash as AHash}
use Rattle.export_write.specs.EntrySettings.{entries}
use Rattle.reports.specs.Asked.{numbered, quick_item, status_item, items_of, then_more, asked}
use Rattle.reports.specs.Items.{Item, group, individual, line, key, quick, home, channel, system, status, hash, unknown}
use Rattle.reports.specs.Types.{kind_asked, report_byte, asked_by}
use Rattle.reports.proofs.ByType.{one_type}
use Rattle.reports.proofs.EntriesBack.{entries_back}

-- ---- the parameters of one type

-- the byte of the type that it answers, 0 for an error
abbrev answers : Item → ℕ
answers (group p g) = report_byte Groups
answers (individual p x) = report_byte Individuals
answers (line p l) = report_byte Lines
answers (key k) = report_byte AKey
answers (quick i us) = report_byte QuickTexts
answers (home h) = report_byte Home
answers (channel n p) = report_byte Channels
answers (system s) = report_byte System
answers (status c p us) = report_byte StatusTexts
answers (hash h) = report_byte AHash
answers (unknown b) = 0

abbrev of : Asked → List Item → List Item
of k [] = []
of k (i ∷ l) = cond (eqb (answers i) (report_byte k)) (i ∷ of k l) (of k l)

of_append : (k : Asked) (a b : List Item) → of k (a ++ b) ≡ of k a ++ of k b
of_append k [] b = refl
of_append k (i ∷ a) b = go (eqb (answers i) (report_byte k)) (of_append k a b)
  where
    go : (t : Bool) → of k (a ++ b) ≡ of k a ++ of k b → cond t (i ∷ of k (a ++ b)) (of k (a ++ b)) ≡ cond t (i ∷ of k a) (of k a) ++ of k b
    go true e = ap (λ l. i ∷ l) e
    go false e = e

numbered_answers : {A : Type 0} (n room : ℕ) (f : ℕ → A → Item) → ((p : ℕ) (a : A) → answers (f p a) ≡ n) → (i : ℕ) (l : List A) → All (λ x. answers x ≡ n) (numbered room f i l)
numbered_answers n room f h i [] = tt
numbered_answers n room f h i (a ∷ l) = (h _ a, numbered_answers n room f h (suc i) l)

items_answer : (t : Tables) (a : Asked) → All (λ i. answers i ≡ report_byte a) (items_of t a)
items_answer t Groups = numbered_answers 0x88 16 group (λ p a. refl) 0 t.group_contacts
items_answer t Individuals = numbered_answers 0x89 16 individual (λ p a. refl) 0 t.individual_contacts
items_answer t Lines = numbered_answers 0x8A 16 line (λ p a. refl) 0 t.lines
items_answer t AKey = (refl, tt)
items_answer t QuickTexts = all_made (λ i. answers i ≡ 0x8C) quick_item (λ e. refl) (entries 0 t.quick)
items_answer t Home = (refl, tt)
items_answer t Channels = numbered_answers 0x8E 4096 (λ p n. channel n p) (λ p a. refl) 0 t.channels
items_answer t System = (refl, tt)
items_answer t StatusTexts = numbered_answers 0x90 256 status_item (λ p a. refl) 0 (entries 32 t.status)
items_answer t AHash = (refl, tt)

-- all of them, or none
of_these : (k : Asked) (n : ℕ) (l : List Item) → All (λ i. answers i ≡ n) l → of k l ≡ cond (eqb n (report_byte k)) l []
of_these k n [] p = go (eqb n (report_byte k))
  where
    go : (t : Bool) → ◌≡◌ {A = List Item} [] (cond t [] [])
    go true = refl
    go false = refl
of_these k n (i ∷ l) p =
    subst⁻¹ (λ (x : ℕ). cond (eqb x (report_byte k)) (i ∷ of k l) (of k l) ≡ cond (eqb n (report_byte k)) (i ∷ l) []) p.0 (go (eqb n (report_byte k)) (of_these k n l p.1))
  where
    go : (t : Bool) → of k l ≡ cond t l [] → cond t (i ∷ of k l) (of k l) ≡ cond t (i ∷ l) []
    go true e = ap (λ x. i ∷ x) e
    go false e = e

-- ---- a type that is asked for several times

abbrev copies : {A : Type 0} → ℕ → List A → List A
copies zero l = []
copies (suc n) l = l ++ copies n l

copies_length : {A : Type 0} (n : ℕ) (l : List A) → length (copies n l) ≡ n * length l
copies_length zero l = omega arith
copies_length (suc n) l = omega (arith, length-append l (copies n l), copies_length n l)

copies_one : {A : Type 0} (n : ℕ) (a b : List A) → copies (suc n) a ≡ copies (suc n) b → a ≡ b
copies_one n a b e =
    let h : suc n * length a ≡ suc n * length b = sym (copies_length (suc n) a) ∙ ap length e ∙ copies_length (suc n) b in
    let l : length a ≡ length b
    = sym (mul-div_cancel_left (length a) {n = suc n} (omega arith)) ∙ ap (λ x. x / suc n) h ∙ mul-div_cancel_left (length b) {n = suc n} (omega arith) in
    (cut a b l e).0

-- how often a type is asked for, up to the first unknown one
abbrev count_on : Asked → Option Asked → ℕ → ℕ
count_on k none n = 0
count_on k (some a) n = cond (eqb (report_byte a) (report_byte k)) (suc n) n

abbrev pub times : Asked → List ℕ → ℕ
times k [] = 0
times k (b ∷ l) = count_on k (asked_by b) (times k l)

of_error : (k : Asked) (b : ℕ) → of k (unknown b ∷ []) ≡ []
of_error Groups b = refl
of_error Individuals b = refl
of_error Lines b = refl
of_error AKey b = refl
of_error QuickTexts b = refl
of_error Home b = refl
of_error Channels b = refl
of_error System b = refl
of_error StatusTexts b = refl
of_error AHash b = refl

-- a report's parameters of a type are that type's, as often as it was asked for
of_asked : (t : Tables) (k : Asked) (types : List ℕ) → of k (asked t types) ≡ copies (times k types) (items_of t k)
of_asked t k [] = refl
of_asked t k (b ∷ l) = go (asked_by b) (of_asked t k l)
  where
    own : (a : Asked) (s : Bool) → eqb (report_byte a) (report_byte k) ≡ s → of k (asked t l) ≡ copies (times k l) (items_of t k)
        → cond s (items_of t a) [] ++ of k (asked t l) ≡ copies (cond s (suc (times k l)) (times k l)) (items_of t k)
    own a true e q = ap₂ (λ (x : Asked) (y : List Item). items_of t x ++ y) (one_type a k (eqb-true (report_byte a) (report_byte k) e)) q
    own a false e q = q

    go : (o : Option Asked) → of k (asked t l) ≡ copies (times k l) (items_of t k) → of k (then_more t b o (asked t l)) ≡ copies (count_on k o (times k l)) (items_of t k)
    go none q = of_error k b
    go (some a) q =
        of_append k (items_of t a) (asked t l) ∙ ap (λ x. x ++ of k (asked t l)) (of_these k (report_byte a) (items_of t a) (items_answer t a))
        ∙ own a (eqb (report_byte a) (report_byte k)) refl q

-- TABLES BACK: two sets whose reports are the same have the same entries in every table that was asked for before an unknown type
pub tables_back : (m : Limits) (t u : Tables) → Allowed m t → Allowed m u → (types : List ℕ) → asked t types ≡ asked u types
    → (k : Asked) → 1 ≤ times k types → own (kind_asked k) t ≡ own (kind_asked k) u
tables_back m t u p q types e k h = entries_back m t u p q k (go (times k types) h (sym (of_asked t k types) ∙ ap (of k) e ∙ of_asked u k types))
  where
    go : (n : ℕ) → 1 ≤ n → copies n (items_of t k) ≡ copies n (items_of u k) → items_of t k ≡ items_of u k
    go zero o z = absurd (omega arith)
    go (suc n) o z = copies_one n (items_of t k) (items_of u k) z
