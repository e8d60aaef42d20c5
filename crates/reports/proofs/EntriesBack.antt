-- ENTRIES BACK: reports that are the same say that the tables asked for are. Assumes nothing.
use Prim.Native.Nat.{ℕ, suc, ◌+◌, ◌%◌}
use mathlib.Core.Path.{◌≡◌, refl, sym, ap, ap₂, ◌∙◌, subst}
use mathlib.Core.Bool.{Bool, true, false, cond}
use mathlib.Core.List.{List, [], ◌∷◌, nil≢cons, cons≢nil, head-eq_of_cons-eq, tail-eq_of_cons-eq}
use mathlib.Core.Option.{Option, none, some, some-injective, none-ne-some}
use native.Mathlib.Omega.{arith}
use borrow.Author.Tests.{eqb-true}
use lib.Dec.{eqb}
use lib.ListN.{length}
use Rattle.lists.specs.Every.{All}
use Rattle.lists.proofs.Seqs.{map_one}
use Rattle.slots.specs.Slots.{Present}
use Rattle.writing.specs.Ranges.{HashSize, no_hash}
use Rattle.writing.specs.Settings.{Text, Entry, Hash}
use Rattle.read_fields.proofs.HashLaws.{one_size}
use Rattle.tables.specs.declared.limits.Limits.{Limits}
use Rattle.tables.specs.Allowed.{Allowed, HashOk}
use Rattle.tables.specs.Owns.{own}
use Rattle.tables.specs.Tables.{Tables, GroupMember, IndividualMember, Line}
use Rattle.reports.specs.declared.Asked.{Asked}
use Rattle.reports.specs.declared.Asked.TheVariants.{Groups, Individuals, Lines, Key as AKey, QuickTexts, Home, Channels, System, StatusTexts, Hash as AHash}
use Rattle.export_write.specs.EntrySettings.{entries}
use Rattle.reports.specs.Asked.{numbered, quick_item, status_item, kept_hash, items_of}
use Rattle.reports.specs.Items.{Item, group, individual, line, key, home, channel, system, hash}
use Rattle.reports.specs.Types.{kind_asked}
use Rattle.reports.proofs.AskedLaws.{Placed, entries_in}

-- numbered entries
numbered_one : {A : Type 0} (room : ℕ) (f : ℕ → A → Item) → ((p q : ℕ) (a b : A) → f p a ≡ f q b → a ≡ b) → (i : ℕ) (l o : List A)
    → numbered room f i l ≡ numbered room f i o → l ≡ o
numbered_one room f h i [] [] e = refl
numbered_one room f h i [] (b ∷ o) e = absurd (nil≢cons e)
numbered_one room f h i (a ∷ l) [] e = absurd (cons≢nil e)
numbered_one room f h i (a ∷ l) (b ∷ o) e =
    ap₂ (λ x y. x ∷ y) (h (i % room) (i % room) a b (head-eq_of_cons-eq e)) (numbered_one room f h (suc i) l o (tail-eq_of_cons-eq e))

-- texts by their indices
any_text : (os : List (Option Text)) → All (Present (λ us. Unit {0})) os
any_text [] = tt
any_text (none ∷ os) = (tt, any_text os)
any_text (some us ∷ os) = (tt, any_text os)

later : (i : ℕ) (os : List (Option Text)) (e : Entry) (es : List Entry) → e.index ≡ i → entries (suc i) os ≡ e ∷ es → ⊥
later i os e es z d =
    let p : All (Placed (λ us. Unit {0}) (suc i) (suc i + length os)) (e ∷ es)
    = subst (All (Placed (λ us. Unit {0}) (suc i) (suc i + length os))) d (entries_in (λ us. Unit {0}) (suc i) (suc i + length os) os (omega arith) (any_text os)) in
    omega (arith, p.0.low)

pub entries_one : (i : ℕ) (os ps : List (Option Text)) → length os ≡ length ps → entries i os ≡ entries i ps → os ≡ ps
entries_one i [] [] n e = refl
entries_one i [] (p ∷ ps) n e = absurd (omega arith)
entries_one i (o ∷ os) [] n e = absurd (omega arith)
entries_one i (none ∷ os) (none ∷ ps) n e = ap (λ l. none ∷ l) (entries_one (suc i) os ps (omega arith) e)
entries_one i (none ∷ os) (some vs ∷ ps) n e = absurd (later i os _ _ refl e)
entries_one i (some us ∷ os) (none ∷ ps) n e = absurd (later i ps _ _ refl (sym e))
entries_one i (some us ∷ os) (some vs ∷ ps) n e =
    let x : us ≡ vs = ap (λ y. y.text) (head-eq_of_cons-eq e) in
    ap₂ (λ y l. some y ∷ l) x (entries_one (suc i) os ps (omega arith) (tail-eq_of_cons-eq e))

quick_one : (a b : Entry) → quick_item a ≡ quick_item b → a ≡ b
quick_one a b e =
    let x : a.index ≡ b.index = cc in
    let y : a.text ≡ b.text = cc in
    λ i. record { index = x i; text = y i }

status_one : (p q : ℕ) (a b : Entry) → status_item p a ≡ status_item q b → a ≡ b
status_one p q a b e =
    let x : a.index ≡ b.index = cc in
    let y : a.text ≡ b.text = cc in
    λ i. record { index = x i; text = y i }

group_one : (p q : ℕ) (a b : GroupMember) → group p a ≡ group q b → a ≡ b
group_one p q a b e = cc

individual_one : (p q : ℕ) (a b : IndividualMember) → individual p a ≡ individual q b → a ≡ b
individual_one p q a b e = cc

line_one : (p q : ℕ) (a b : Line) → line p a ≡ line q b → a ≡ b
line_one p q a b e = cc

channel_one : (p q a b : ℕ) → channel a p ≡ channel b q → a ≡ b
channel_one p q a b e = cc

-- the kept hash
nothing : (v : List ℕ) → length v ≡ 0 → v ≡ []
nothing [] e = refl
nothing (b ∷ v) e = absurd (omega arith)

none_kept : (h : Hash) → HashOk h → h.code ≡ 0 → h ≡ record { code = 0; value = [] }
none_kept h p e =
    let v : h.value ≡ [] = nothing h.value (one_size (subst (λ (c : ℕ). HashSize c (length h.value)) e p.size) no_hash) in
    λ i. record { code = e i; value = v i }

kept_one : (h k : Hash) → HashOk h → HashOk k → kept_hash h ≡ kept_hash k → h ≡ k
kept_one h k p q e = go (eqb h.code 0) (eqb k.code 0) refl refl e
  where
    go : (b c : Bool) → eqb h.code 0 ≡ b → eqb k.code 0 ≡ c → cond b none (some h) ≡ cond c none (some k) → h ≡ k
    go true true x y z = none_kept h p (eqb-true h.code 0 x) ∙ sym (none_kept k q (eqb-true k.code 0 y))
    go true false x y z = absurd (none-ne-some k z)
    go false true x y z = absurd (none-ne-some h (sym z))
    go false false x y z = some-injective h k z

-- ENTRIES BACK: where the parameters of a type are the same, so are the tables
pub entries_back : (m : Limits) (t u : Tables) → Allowed m t → Allowed m u → (a : Asked) → items_of t a ≡ items_of u a → own (kind_asked a) t ≡ own (kind_asked a) u
entries_back m t u p q Groups e = numbered_one 16 group group_one 0 t.group_contacts u.group_contacts e
entries_back m t u p q Individuals e = numbered_one 16 individual individual_one 0 t.individual_contacts u.individual_contacts e
entries_back m t u p q Lines e = numbered_one 16 line line_one 0 t.lines u.lines e
entries_back m t u p q AKey e = let z : key t.key ≡ key u.key = head-eq_of_cons-eq e in cc
entries_back m t u p q QuickTexts e =
    entries_one 0 t.quick u.quick (p.quick.0 ∙ sym q.quick.0) (map_one quick_item quick_one (entries 0 t.quick) (entries 0 u.quick) e)
entries_back m t u p q Home e = let z : home t.home ≡ home u.home = head-eq_of_cons-eq e in cc
entries_back m t u p q Channels e = numbered_one 4096 (λ i n. channel n i) channel_one 0 t.channels u.channels e
entries_back m t u p q System e = let z : system t.system ≡ system u.system = head-eq_of_cons-eq e in cc
entries_back m t u p q StatusTexts e =
    entries_one 32 t.status u.status (p.status.0 ∙ sym q.status.0)
    (numbered_one 256 status_item status_one 0 (entries 32 t.status) (entries 32 u.status) e)
entries_back m t u p q AHash e =
    let z : hash (kept_hash t.hash) ≡ hash (kept_hash u.hash) = head-eq_of_cons-eq e in
    kept_one t.hash u.hash p.hash q.hash (cc)
