-- The thirteen rows, and what they say of settings in range. Assumes nothing.
use Rattle.lists.proofs.Kit.{ℕ, zero, suc, ◌+◌, ◌≤◌, ◌<◌, ◌≡◌, refl, sym, ap, ◌∙◌, subst⁻¹, map, arith, get_or}
use Rattle.lists.proofs.Seqs.{get_d_map}
use Rattle.writing.specs.declared.Coding.{Coding}
use Rattle.writing.specs.declared.Kind.{Kind}
use Rattle.writing.specs.declared.Kind.TheVariants.{GroupContacts, IndividualContacts, Lines, Key, QuickTexts, Home, Channels, System, StatusTexts, Group, Individual, LineSlot, Last}
use Rattle.writing.specs.declared.Operation.{Operation}
use Rattle.writing.specs.declared.Operation.TheVariants.{Add, Delete, Replace}
use Rattle.writing.specs.Bounds.{bounds}
use Rattle.writing.specs.Ranges.{text_limits}
use Rattle.writing.specs.Settings.{unicode16}
use Rattle.writing.specs.Writing.{type_byte, op_code}
use Rattle.settings.specs.TypeTable.{most_of, largest, BoundsAre, row_of, kinds}
use Rattle.settings.specs.declared.type_table.Bounds.{Bounds}
use Rattle.settings.specs.declared.type_table.TypeRow.{TypeRow}

-- the row in any place of the table is its kind's
pub row_at : (i : ℕ) (r : TypeRow) → i < 13 → get_or (map row_of kinds) i r ≡ row_of (get_or kinds i Last)
row_at i r l = get_d_map row_of kinds i Last r l

-- the operations of a kind are the same under every coding
same_operations : (c : Coding) (k : Kind) → (bounds unicode16 text_limits k).operations ≡ (bounds c text_limits k).operations
same_operations c GroupContacts = refl
same_operations c IndividualContacts = refl
same_operations c Lines = refl
same_operations c Key = refl
same_operations c QuickTexts = refl
same_operations c Home = refl
same_operations c Channels = refl
same_operations c System = refl
same_operations c StatusTexts = refl
same_operations c Group = refl
same_operations c Individual = refl
same_operations c LineSlot = refl
same_operations c Last = refl

-- the columns of one coding are the bounds under it
pub columns_are : (d : Coding) {c : Coding} {k : Kind} {b : Bounds} → c ≡ d → b.type_byte ≡ type_byte k → b.least ≡ (bounds d text_limits k).least
    → b.most ≡ most_of (bounds d text_limits k).most → b.operations ≡ largest (bounds unicode16 text_limits k).operations → BoundsAre c k b
columns_are d {k = k} {b = b} e type least most operations =
    subst⁻¹ (λ (x : Coding). BoundsAre x k b) e
    (record { type = type; least = least; most = most; operations = operations ∙ ap largest (same_operations d k) })

-- the type bytes are C8 to D3 and FF
pub type_bytes : (k : Kind) {b : ℕ} → type_byte k ≡ b → ((200 ≤ b → b ≤ 211 → ⊥) → b ≡ 255)
type_bytes GroupContacts e h = absurd (h (omega arith) (omega arith))
type_bytes IndividualContacts e h = absurd (h (omega arith) (omega arith))
type_bytes Lines e h = absurd (h (omega arith) (omega arith))
type_bytes Key e h = absurd (h (omega arith) (omega arith))
type_bytes QuickTexts e h = absurd (h (omega arith) (omega arith))
type_bytes Home e h = absurd (h (omega arith) (omega arith))
type_bytes Channels e h = absurd (h (omega arith) (omega arith))
type_bytes System e h = absurd (h (omega arith) (omega arith))
type_bytes StatusTexts e h = absurd (h (omega arith) (omega arith))
type_bytes Group e h = absurd (h (omega arith) (omega arith))
type_bytes Individual e h = absurd (h (omega arith) (omega arith))
type_bytes LineSlot e h = absurd (h (omega arith) (omega arith))
type_bytes Last e h = sym e

-- the first twelve stand in order
pub type_in_order : (i : ℕ) → i < 12 → type_byte (get_or kinds i Last) ≡ 200 + i
type_in_order zero l = refl
type_in_order (suc zero) l = refl
type_in_order (suc (suc zero)) l = refl
type_in_order (suc (suc (suc zero))) l = refl
type_in_order (suc (suc (suc (suc zero)))) l = refl
type_in_order (suc (suc (suc (suc (suc zero))))) l = refl
type_in_order (suc (suc (suc (suc (suc (suc zero)))))) l = refl
type_in_order (suc (suc (suc (suc (suc (suc (suc zero))))))) l = refl
type_in_order (suc (suc (suc (suc (suc (suc (suc (suc zero)))))))) l = refl
type_in_order (suc (suc (suc (suc (suc (suc (suc (suc (suc zero))))))))) l = refl
type_in_order (suc (suc (suc (suc (suc (suc (suc (suc (suc (suc zero)))))))))) l = refl
type_in_order (suc (suc (suc (suc (suc (suc (suc (suc (suc (suc (suc zero))))))))))) l = refl
type_in_order (suc (suc (suc (suc (suc (suc (suc (suc (suc (suc (suc (suc i)))))))))))) l = absurd (omega arith)

-- an operation's code is 1, 2 or 3
pub no_code : {code : ℕ} → (code ≡ 1 → ⊥) → (code ≡ 2 → ⊥) → (code ≡ 3 → ⊥) → (o : Operation) → op_code o ≡ code → ⊥
no_code a b c Add e = a (sym e)
no_code a b c Delete e = b (sym e)
no_code a b c Replace e = c (sym e)

-- a type byte is one of the thirteen
pub one_of_thirteen : {b : ℕ} → (b ≡ 0xC8 → ⊥) → (b ≡ 0xC9 → ⊥) → (b ≡ 0xCA → ⊥) → (b ≡ 0xCB → ⊥) → (b ≡ 0xCC → ⊥) → (b ≡ 0xCD → ⊥) → (b ≡ 0xCE → ⊥)
    → (b ≡ 0xCF → ⊥) → (b ≡ 0xD0 → ⊥) → (b ≡ 0xD1 → ⊥) → (b ≡ 0xD2 → ⊥) → (b ≡ 0xD3 → ⊥) → (b ≡ 0xFF → ⊥) → (k : Kind) → b ≡ type_byte k → ⊥
one_of_thirteen n1 n2 n3 n4 n5 n6 n7 n8 n9 n10 n11 n12 n13 GroupContacts e = n1 e
one_of_thirteen n1 n2 n3 n4 n5 n6 n7 n8 n9 n10 n11 n12 n13 IndividualContacts e = n2 e
one_of_thirteen n1 n2 n3 n4 n5 n6 n7 n8 n9 n10 n11 n12 n13 Lines e = n3 e
one_of_thirteen n1 n2 n3 n4 n5 n6 n7 n8 n9 n10 n11 n12 n13 Key e = n4 e
one_of_thirteen n1 n2 n3 n4 n5 n6 n7 n8 n9 n10 n11 n12 n13 QuickTexts e = n5 e
one_of_thirteen n1 n2 n3 n4 n5 n6 n7 n8 n9 n10 n11 n12 n13 Home e = n6 e
one_of_thirteen n1 n2 n3 n4 n5 n6 n7 n8 n9 n10 n11 n12 n13 Channels e = n7 e
one_of_thirteen n1 n2 n3 n4 n5 n6 n7 n8 n9 n10 n11 n12 n13 System e = n8 e
one_of_thirteen n1 n2 n3 n4 n5 n6 n7 n8 n9 n10 n11 n12 n13 StatusTexts e = n9 e
one_of_thirteen n1 n2 n3 n4 n5 n6 n7 n8 n9 n10 n11 n12 n13 Group e = n10 e
one_of_thirteen n1 n2 n3 n4 n5 n6 n7 n8 n9 n10 n11 n12 n13 Individual e = n11 e
one_of_thirteen n1 n2 n3 n4 n5 n6 n7 n8 n9 n10 n11 n12 n13 LineSlot e = n12 e
one_of_thirteen n1 n2 n3 n4 n5 n6 n7 n8 n9 n10 n11 n12 n13 Last e = n13 e
