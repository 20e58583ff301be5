-- What holds of an accepted image, rule by rule of the table of refusals: the facts that everything else uses.
use Rattle.std.specs.Prelude.{◌≡◌, ◌≢◌, true, List, map, ℕ, zero, suc, ◌+◌, ◌≤◌, ◌<◌, length, get_or, take}
use Rattle.spec.specs.Bytes.{Two, pick, sum, be4}
use Rattle.spec.specs.Image.{Tables, Member, arities, FREE, MSet, Lit, NO-IDENTITY, HEADER, OPERATIONS, CLASSES, MEMBERS, CHILDREN, BEST-SIZE, is_ac, is_commutative, the_operation, the_class, the_member, kind_of, identity_of, best_size, members_of, children_of, best_member, size_over, tables_of, image_end}
use Rattle.spec.specs.Meaning.{In}

-- 4: "operations (1 to 64), classes (1 to 256), members (1 to 1,024), children (0 to 4,096)"
pub record Counts (t : Tables) : Type 0 where
  pub some_operation : 1 ≤ length t.operations
  pub few_operations : length t.operations ≤ OPERATIONS
  pub some_class : 1 ≤ length t.classes
  pub few_classes : length t.classes ≤ CLASSES
  pub some_member : 1 ≤ length t.members
  pub few_members : length t.members ≤ MEMBERS
  pub few_children : length t.children ≤ CHILDREN

-- 6: "kind (0 to 9), commutative flag (1 exactly for SPair, MSet, Set, else 0), identity class (65,535 for none; a class of the image only for MSet and Set)"
pub record Operations (t : Tables) : Type 0 where
  pub kinds : (o : ℕ) → o < length t.operations → kind_of t o < 10
  pub flags : (o : ℕ) → o < length t.operations → (the_operation t o).flag ≡ pick (is_commutative (kind_of t o)) 1 0
  pub identities : (o : ℕ) → o < length t.operations → identity_of t o ≢ NO-IDENTITY → (is_ac (kind_of t o) ≡ true) × (identity_of t o < length t.classes)

-- "Spans follow one another without gaps and use up the tables": each begins where the earlier ones end, and the last ends with the table
pub record Follow (end : ℕ) (spans : List Two) : Type 0 where
  pub begins : (i : ℕ) → i < length spans → (get_or spans i (0, 0)).0 ≡ sum (take i (map (λ s. s.1) spans))
  pub ends : sum (map (λ s. s.1) spans) ≡ end

abbrev pub class_spans : Tables → List Two
class_spans t = map (λ c. (c.first, c.count)) t.classes

abbrev pub member_spans : Tables → List Two
member_spans t = map (λ m. (m.first, m.count)) t.members

-- 7
pub record Spans (t : Tables) : Type 0 where
  pub classes_follow : Follow (length t.members) (class_spans t)
  pub members_follow : Follow (length t.children) (member_spans t)
  -- "a member count of 0 or a child count above 64 too"
  pub some_own_member : (c : ℕ) → c < length t.classes → 1 ≤ (the_class t c).count
  pub few_own_children : (m : ℕ) → m < length t.members → (the_member t m).count ≤ 64
  pub operation_within : (m : ℕ) → m < length t.members → (the_member t m).op < length t.operations
  -- "literal value (4, zero unless kind Lit)"
  pub literal_field : (m : ℕ) → m < length t.members → kind_of t (the_member t m).op ≢ Lit → (the_member t m).value ≡ 0
  -- "Members of a class stand in non-falling operation order."
  pub rising : (c i : ℕ) → c < length t.classes → suc i < (the_class t c).count → (the_member t ((the_class t c).first + i)).op ≤ (the_member t ((the_class t c).first + suc i)).op

-- 8: "class of the image, count (at least 1; only MSet may exceed 1)", and the arity of each kind
pub record Children (t : Tables) : Type 0 where
  pub arity : (m : ℕ) → m < length t.members → get_or arities (kind_of t (the_member t m).op) FREE ≢ FREE → (the_member t m).count ≡ get_or arities (kind_of t (the_member t m).op) FREE
  pub child_class : (m : ℕ) (c : Two) → m < length t.members → In c (children_of t (the_member t m)) → c.0 < length t.classes
  pub child_count : (m : ℕ) (c : Two) → m < length t.members → In c (children_of t (the_member t m)) → 1 ≤ c.1
  pub single : (m : ℕ) (c : Two) → m < length t.members → In c (children_of t (the_member t m)) → kind_of t (the_member t m).op ≢ MSet → c.1 ≡ 1

-- 9: "best member outside its class, or best size wrong or outside its range"
pub record Best (t : Tables) : Type 0 where
  pub best_within : (c : ℕ) → c < length t.classes → ((the_class t c).first ≤ (the_class t c).best) × ((the_class t c).best < (the_class t c).first + (the_class t c).count)
  pub best_range : (c : ℕ) → c < length t.classes → (1 ≤ best_size t c) × (best_size t c ≤ BEST-SIZE)
  pub best_equation : (c : ℕ) → c < length t.classes → best_size t c ≡ size_over t (children_of t (best_member t c))

-- 10: "No literal (operation and value) stands in two classes"
pub record Apart (t : Tables) : Type 0 where
  pub apart : (c d : ℕ) (m n : Member) → c < length t.classes → d < length t.classes → In m (members_of t c) → In n (members_of t d)
      → kind_of t m.op ≡ Lit → m.op ≡ n.op → m.value ≡ n.value → c ≡ d

-- the tables of an accepted image
pub record Valid (t : Tables) : Type 0 where
  pub counts : Counts t
  pub operations : Operations t
  pub spans : Spans t
  pub children : Children t
  pub best : Best t
  pub literals : Apart t

-- Image s keeps rule n of the table of refusals.
pub data Keeps (s : List ℕ) (n : ℕ) : Type 0 where
  two : n ≡ 2 → HEADER ≤ length s → be4 s 0 + 4 ≡ length s → Keeps s n
  three : n ≡ 3 → get_or s 4 0 ≡ 1 → Keeps s n
  four : n ≡ 4 → Counts (tables_of s) → Keeps s n
  five : n ≡ 5 → image_end s ≡ length s → Keeps s n
  six : n ≡ 6 → Operations (tables_of s) → Keeps s n
  seven : n ≡ 7 → Spans (tables_of s) → Keeps s n
  eight : n ≡ 8 → Children (tables_of s) → Keeps s n
  nine : n ≡ 9 → Best (tables_of s) → Keeps s n
  ten : n ≡ 10 → Apart (tables_of s) → Keeps s n
