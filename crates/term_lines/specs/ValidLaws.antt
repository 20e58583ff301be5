-- What a line gives is an entry over the lines before it, light enough for the pool's buffers.
use Rattle.std.specs.Prelude.{◌≡◌, refl, Bool, true, false, List, [], ◌∷◌, map, ℕ, zero, suc, ◌*◌, ◌-◌, ◌^◌, ◌≤◌, ◌<◌, ltb, leb, eqb, length, drop}
use Rattle.std.proofs.Common.{sym, ◌∙◌, arith, ltb-true, leb-true}
use Rattle.std.proofs.lemmas.Bool.{eqb-false}
use Rattle.spec.specs.Bytes.{pick, both, sum, Two, text, decimal, Res, ok, refused, rule, ◌>>=◌}
use Rattle.spec.specs.Pool.{Node, RUNS, expanded_length}
use Rattle.spec.specs.Meaning.{In, here, there}
use Rattle.laws.specs.Tests.{clash, both_true}
use Rattle.pools.specs.Pool.{Joined, none, one, more, RunsBelow, runs-below-nil, runs-below-cons, operation, literal, marked, NodeValid}
use Rattle.formula.specs.Lexer.{starts_with, lead}
use Rattle.formula.specs.Lines.{cut_word, cut_number, CHILDREN, cut_runs, runs_at, cut_node, cut_line}
use Rattle.terms.specs.Buffers.{unpack}
use Rattle.term_lines.specs.Reading.{cut_child, cut_count, lit_at, op_at, variants_at}
use Rattle.term_lines.specs.RunLaws.{feed, step}
use Rattle.term_lines.specs.LineLaws.{node-lit, node-op, node-variants}

-- ---- a result that is there, step by step
module _ {B : Type 0} (y : B) where
  pub bound : {A : Type 0} (m : Res A) (f : A → Res B) → m >>= f ≡ ok y → (x : A) × (m ≡ ok x) × (f x ≡ ok y)
  bound (ok x) f e = (x, refl, e)
  bound (refused n) f e = absurd (let z : ◌≡◌ {A = ℕ} 0 1 = cc in omega arith)

  pub ruled : (n : ℕ) (b : Bool) (f : Unit → Res B) → rule n b >>= f ≡ ok y → (b ≡ true) × (f tt ≡ ok y)
  ruled n true f e = (refl, e)
  ruled n false f e = absurd (let z : ◌≡◌ {A = ℕ} 0 1 = cc in omega arith)

  pub same : (x : B) → ok x ≡ ok y → x ≡ y
  same x e = cc

-- ---- a run
number-told : (most : ℕ) (s : List ℕ) (n : ℕ × List ℕ) → cut_number most s ≡ ok n → n.0 ≤ most
unfolding cut_number
number-told most s n e = go (leb (lead 0 s) most) refl (starts_with (decimal (lead 0 s)) s) e
  where
    x : ℕ × List ℕ
    x = (lead 0 s, drop (length (decimal (lead 0 s))) s)

    go : (a : Bool) → leb (lead 0 s) most ≡ a → (b : Bool) → pick (both a b) (ok x) (refused 17) ≡ ok n → n.0 ≤ most
    go true p true q = rw (← same n x q) (leb-true (lead 0 s) most p)
    go true p false q = absurd (let z : ◌≡◌ {A = ℕ} 0 1 = cc in omega arith)
    go false p b q = absurd (let z : ◌≡◌ {A = ℕ} 0 1 = cc in omega arith)

child-told : (k last : ℕ) (s : List ℕ) (c : ℕ × List ℕ) → cut_child k last s ≡ ok c → (c.0 < k) × (c.0 ≡ last → ⊥)
unfolding cut_child
child-told k last s c e =
    let (a, _, f) = bound c (cut_word (text " ") s) _ e in
    let (d, _, g) = bound c (cut_number 16383 a) _ f in
    let (t, q) = ruled c 17 (both (ltb d.0 k) (pick (eqb d.0 last) false true)) _ g in
    let (u, v) = (both_true (ltb d.0 k) (pick (eqb d.0 last) false true)).0 t in
    rw (← same c d q) (ltb-true d.0 k u, eqb-false d.0 last (turn (eqb d.0 last) v))
  where
    turn : (b : Bool) → pick b false true ≡ true → b ≡ false
    turn true p = absurd (clash (sym p))
    turn false p = refl

count-told : (left : ℕ) (s : List ℕ) (n : ℕ × List ℕ) → cut_count left s ≡ ok n → (0 < n.0) × (n.0 ≤ left)
unfolding cut_count
count-told left s n e =
    let (b, _, f) = bound n (cut_word (text ":") s) _ e in
    let (d, r, g) = bound n (cut_number left b) _ f in
    let (t, q) = ruled n 17 (ltb 0 d.0) _ g in
    rw (← same n d q) (ltb-true 0 d.0 t, number-told left b d r)

-- ---- the runs of a line
-- the first child is not the one before
abbrev Fresh : ℕ → List Two → Type 0
Fresh last [] = Unit
Fresh last (r ∷ l) = r.0 ≡ last → ⊥

record Told (k last left : ℕ) (l : List Two) : Type 0 where
  below : RunsBelow k l
  joined : Joined l
  fresh : Fresh last l
  few : expanded_length l ≤ left

told-nil : (k last left : ℕ) → Told k last left []
unfolding sum
told-nil k last left = record { below = runs-below-nil k; joined = none; fresh = tt; few = omega arith }

told-cons : (k last left c n : ℕ) (l : List Two) → c < k → (c ≡ last → ⊥) → 0 < n → n ≤ left → Told k c (left - n) l → Told k last left ((c, n) ∷ l)
unfolding sum
told-cons k last left c n l h d z q t = record { below = runs-below-cons h z t.below; joined = join l t.joined t.fresh; fresh = d; few = omega (arith, t.few) }
  where
    join : (l : List Two) → Joined l → Fresh c l → Joined ((c, n) ∷ l)
    join [] j g = one
    join (r ∷ l) j g = more (λ e. g (sym e)) j

runs-told : (f k last left free : ℕ) (s : List ℕ) (x : List Two × List ℕ) → cut_runs f k last left free s ≡ ok x → Told k last left x.0
unfolding cut_runs
runs-told zero k last left free s x e = absurd (let z : ◌≡◌ {A = ℕ} 0 1 = cc in omega arith)
runs-told (suc f) k last left free s x e = go (starts_with (10 ∷ []) s) refl (λ c n r y q. runs-told f k c (left - n) (free - 1) r y q)
  where
    go : (b : Bool) → starts_with (10 ∷ []) s ≡ b → ((c n : ℕ) (r : List ℕ) (y : List Two × List ℕ) → cut_runs f k c (left - n) (free - 1) r ≡ ok y → Told k c (left - n) y.0) → Told k last left x.0
    go true p ih = rw (← same x ([], drop 1 s) (sym (feed f k last left free s p) ∙ e)) (told-nil k last left)
    go false p ih =
        let (c, i, g) = bound x (cut_child k last s) _ (sym (step f k last left free s p) ∙ e) in
        let (n, j, h) = bound x (cut_count left c.1) _ g in
        let (_, q) = ruled x 13 (ltb 0 free) _ h in
        let (y, r, w) = bound x (cut_runs f k c.0 (left - n.0) (free - 1) n.1) _ q in
        let (u, v) = child-told k last s c i in
        let (z, m) = count-told left c.1 n j in
        rw (← same x ((c.0, n.0) ∷ y.0, y.1) w) (told-cons k last left c.0 n.0 y.0 u v z m (ih c.0 n.0 n.1 y r))

-- ---- a node
abbrev Sound : ℕ → Node → Type 0
Sound k n = NodeValid k n × (expanded_length n.runs ≤ CHILDREN)

lit-sound : (k : ℕ) (s : List ℕ) (x : Node × List ℕ) → lit_at s ≡ ok x → Sound k x.0
unfolding lit_at sum
lit-sound k s x e =
    let (o, _, f) = bound x (cut_number 63 s) _ e in
    let (b, _, g) = bound x (cut_word (text " ") o.1) _ f in
    let (v, _, h) = bound x (cut_number 4294967295 b) _ g in
    let (r, _, i) = bound x (cut_word (10 ∷ []) v.1) _ h in
    rw (← same x _ i) (record { formed = literal refl refl; below = runs-below-nil k; joined = none }, omega arith)

op-sound : (k : ℕ) (s : List ℕ) (x : Node × List ℕ) → op_at k s ≡ ok x → Sound k x.0
unfolding op_at
op-sound k s x e =
    let (o, _, f) = bound x (cut_number 63 s) _ e in
    let (l, r, g) = bound x (runs_at k o.1) _ f in
    let t = runs-told (suc (length o.1)) k k CHILDREN RUNS o.1 l r in
    rw (← same x _ g) (record { formed = operation refl refl; below = t.below; joined = t.joined }, t.few)

variants-sound : (k : ℕ) (s : List ℕ) (x : Node × List ℕ) → variants_at k s ≡ ok x → Sound k x.0
unfolding variants_at
variants-sound k s x e =
    let (a, _, f) = bound x (cut_word (text " variants") s) _ e in
    let (l, r, g) = bound x (runs_at k a) _ f in
    let (_, h) = ruled x 17 (eqb (expanded_length l.0) 2) _ g in
    let t = runs-told (suc (length a)) k k CHILDREN RUNS a l r in
    rw (← same x _ h) (record { formed = marked refl refl refl; below = t.below; joined = t.joined }, t.few)

node-sound : (k : ℕ) (s : List ℕ) (x : Node × List ℕ) → cut_node k s ≡ ok x → Sound k x.0
node-sound k s x e = go (starts_with (text " lit ") s) refl (starts_with (text " op ") s) refl
  where
    go : (a : Bool) → starts_with (text " lit ") s ≡ a → (b : Bool) → starts_with (text " op ") s ≡ b → Sound k x.0
    go true p b q = lit-sound k (drop 5 s) x (node-lit k s p ∙ e)
    go false p true q = op-sound k (drop 4 s) x (node-op k s p q ∙ e)
    go false p false q = variants-sound k s x (node-variants k s p q ∙ e)

-- Line k gives an entry over entries before number k, with so many children at most.
pub line-sound : (k : ℕ) (s : List ℕ) (x : Node × List ℕ) → cut_line k s ≡ ok x → NodeValid k x.0 × (expanded_length x.0.runs ≤ CHILDREN)
unfolding cut_line
line-sound k s x e = let (a, _, f) = bound x (cut_word (decimal k) s) _ e in node-sound k a x f

-- such runs are light as numbers
light : (l : List ℕ) → ((r : Two) → In r (map unpack l) → 1 ≤ r.1) → sum l ≤ 32768 * expanded_length (map unpack l)
unfolding sum
light [] h = omega arith
light (x ∷ l) h = omega (arith, light l (λ r i. h r (there i)), h (unpack x) here)

pub runs-light : (k : ℕ) (l : List ℕ) → RunsBelow k (map unpack l) → expanded_length (map unpack l) ≤ CHILDREN → sum l < 2 ^ 64
runs-light k l b h = omega (arith, light l b.counted)
