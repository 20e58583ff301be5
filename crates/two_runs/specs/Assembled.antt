-- What the parts of `merge_query` give together: where a work buffer is too short, and where none is.
use Rattle.std.specs.Prelude.{◌≡◌, refl, ◌≢◌, Bool, true, false, not, List, ℕ, ◌≤◌, T, leb, length}
use Rattle.std.proofs.Common.{sym, ap, subst, ◌∙◌, arith, leb-true}
use Rattle.std.proofs.Math.Decide.{ℕ_discrete}
use Rattle.spec.specs.Bytes as bytes
use Rattle.spec.specs.Bytes.{Res, ok, refused}
use Rattle.spec.specs.Run.{limits_for}
use Rattle.spec.specs.Merge.{merge_under, merge_for, output_after}
use Rattle.spec.specs.declared.Caller.{Caller}
use Rattle.spec.specs.declared.Caller.TheVariants.{Page, Desk}
use Rattle.laws.specs.Tests.{both_true}
use Rattle.laws.specs.Results.{refused-ok, refused-inj}
use Rattle.pools.specs.Refused.{NoLess}
use Rattle.query.specs.Settings.{limits_of}
use Rattle.query.specs.declared.Limits.{Limits}
use Rattle.query.specs.declared.Query.{Query}
use Rattle.pair_search.specs.declared.Pair.{Pair}
use Rattle.contract.specs.declared.Answer.{Answer}
use Rattle.contract.specs.declared.Answer.TheVariants.{Listing, Refused, Doubled}
use Rattle.contract.specs.Answers.{answer_of, Cleared, Table}
use Rattle.merge_under.specs.Under.{merge_at, Roomy, MergesUnder}
use Rattle.first_run.specs.First.{small_limits, limited}
use Rattle.second_run.specs.Twice.{Settles}
use Rattle.second_run.specs.TwiceLaws.{Asked, under_same, under-twelve}
use Rattle.contract.specs.Merges.{fits, Merges}

pub is-short : (b : Bool) → T (not b) → b ≡ false
is-short true h = absurd h
is-short false h = refl

pub is-fit : (b : Bool) → T (not (not b)) → b ≡ true
is-fit true h = refl
is-fit false h = absurd h

-- ---- 1
pub one : (c : Caller) (image : List ℕ) (left right budget : ℕ) (fit : Bool) (out : List ℕ) (r : Answer) → r ≡ Refused 1 → fit ≡ false → Merges c image left right budget fit out out r
unfolding merge_for merge_under output_after
one c image left right budget fit out r q e = rw (q, e) (record { answer = refl; output = refl; carries = λ z. absurd (omega arith) })

pub table-alone : (fit : Bool) (t : List Pair) → fit ≡ false → Table fit t t
table-alone fit t e = rw e refl

pub work-alone : (fit : Bool) (a b c d e f : List ℕ) → fit ≡ false → Cleared fit a a b b c c d d e e f f
work-alone fit a b c d e f q = rw q (record { graph = refl; pairs = refl; work = refl; flow = refl; terms = refl; runs = refl })

-- ---- past 1
-- the lent buffers have their constant lengths
pub record Wide (a b c d e f : List ℕ) : Type 0 where
  pub graph : 4352 ≤ length a
  pub pairs : 1536 ≤ length b
  pub work : 1024 ≤ length c
  pub flow : 256 ≤ length d
  pub terms : 3074 ≤ length e
  pub runs : 1024 ≤ length f

pub record Enough (t : List Pair) (a b c d e f : List ℕ) : Type 0 where
  pub table : 256 ≤ length t
  pub wide : Wide a b c d e f

pub enough : (t : List Pair) (a b c d e f : List ℕ) → fits t a b c d e f ≡ true → Enough t a b c d e f
enough t a b c d e f q =
    let (q₁, r₁) = (both_true (leb 256 (length t)) _).0 q in
    let (q₂, r₂) = (both_true (leb 4352 (length a)) _).0 r₁ in
    let (q₃, r₃) = (both_true (leb 1536 (length b)) _).0 r₂ in
    let (q₄, r₄) = (both_true (leb 1024 (length c)) _).0 r₃ in
    let (q₅, r₅) = (both_true (leb 256 (length d)) _).0 r₄ in
    let (q₆, q₇) = (both_true (leb 3074 (length e)) _).0 r₅ in
    record {
      table = leb-true 256 (length t) q₁;
      wide = record { graph = leb-true 4352 (length a) q₂; pairs = leb-true 1536 (length b) q₃; work = leb-true 1024 (length c) q₄; flow = leb-true 256 (length d) q₅; terms = leb-true 3074 (length e) q₆; runs = leb-true 1024 (length f) q₇ };
    }

-- they have room for the first run
wide-roomy : {a b c d e f : List ℕ} → Wide a b c d e f → Roomy small_limits a b c d e f
wide-roomy w = record {
  marks = omega (arith, w.graph);
  numbers = omega (arith, w.pairs);
  scratch = record { few = omega arith; list = omega (arith, w.work); costs = omega (arith, w.work); plan = omega (arith, w.flow) };
  rooms = record { few = omega arith; ends = omega arith; long = omega (arith, w.terms); roomy = omega (arith, w.runs) };
}

-- what its call of `merge_under` asks
pub asked-small : (lim : Limits) (t : List Pair) (a b c d e f : List ℕ) → limits_of lim ≡ small_limits → fits t a b c d e f ≡ true → Asked lim t a b c d e f
asked-small lim t a b c d e f z q =
    let E = enough t a b c d e f q in
    let n : lim.pairs ≡ 256 = ap (λ (l : bytes.Limits). l.pairs) z in
    (omega (arith, n), omega (arith, n, E.table), subst (λ (l : bytes.Limits). Roomy l a b c d e f) (sym z) (wide-roomy E.wide))

pub all_of : (c : Caller) (image : List ℕ) (left right budget : ℕ) (fit : Bool) (out out' : List ℕ) (r : Answer) → fit ≡ true → Merges c image left right budget true out out' r → Merges c image left right budget fit out out' r
all_of c image left right budget fit out out' r e m = rw e m

pub table_of : (fit : Bool) (t t' : List Pair) → fit ≡ true → Table true t t' → Table fit t t'
table_of fit t t' e h = rw e h

pub work-of : (fit : Bool) (a b c d e f a' b' c' d' e' f' : List ℕ) → fit ≡ true → Cleared true a a' b b' c c' d d' e e' f f' → Cleared fit a a' b b' c c' d d' e e' f f'
work-of fit a b c d e f a' b' c' d' e' f' q k = rw q k

-- ---- the first run's answer
small-less : (c : Caller) → NoLess small_limits (limits_for c)
small-less Page = record { pairs = omega arith; terms = omega arith; runs = omega arith }
small-less Desk = record { pairs = omega arith; terms = omega arith; runs = omega arith }

-- which refusals are the caller's: of the page all but 13, of the desk all but 12 and 13
limited-13 : (c : Caller) (k : ℕ) → limited c (Refused k) ≡ false → k ≢ 13
limited-13 c k e i = let y : true ≡ false = sym (ap (λ (j : ℕ). limited c (Refused j)) i) ∙ e in let w : ◌≡◌ {A = ℕ} 0 1 = cc in absurd (omega arith)

limited-12 : (k : ℕ) → limited Desk (Refused k) ≡ false → k ≢ 12
limited-12 k e i = let y : true ≡ false = sym (ap (λ (j : ℕ). limited Desk (Refused j)) i) ∙ e in let w : ◌≡◌ {A = ℕ} 0 1 = cc in absurd (omega arith)

-- It is the call's, unless a limit was met that is not the caller's own: 12 of the first run is the page's.
module _ (s : List ℕ) (q : Query) (room m : ℕ) where
  abbrev At : Res (List ℕ)
  At = merge_at small_limits m s q room

  abbrev Call : Caller → Res (List ℕ)
  Call c = merge_for c true s q.left q.right q.budget room

  listed : (c : Caller) (l : List ℕ) → At ≡ ok l → Call c ≡ ok l
  listed c l e = under_same s q room c small_limits (small-less c) m (ok l) e (λ z. refused-ok (sym z)) (λ z. refused-ok (sym z))

  refused-else : (c : Caller) (k : ℕ) → k ≢ 12 → k ≢ 13 → At ≡ refused k → Call c ≡ refused k
  refused-else c k n12 n13 e = under_same s q room c small_limits (small-less c) m (refused k) e (λ z. n12 (refused-inj z)) (λ z. n13 (refused-inj z))

  refused_as : (c : Caller) (k : ℕ) → limited c (Refused k) ≡ false → At ≡ refused k → Call c ≡ refused k
  refused_as Page k h e = go (ℕ_discrete k 12)
    where
      go : Dec (k ≡ 12) → Call Page ≡ refused k
      go (yes i) = under-twelve s q room Page small_limits (small-less Page) m refl (e ∙ ap (λ (j : ℕ). refused j) i) ∙ sym (ap (λ (j : ℕ). refused j) i)
      go (no n) = refused-else Page k n (limited-13 Page k h) e
  refused_as Desk k h e = refused-else Desk k (limited-12 k h) (limited-13 Desk k h) e

  stands : (c : Caller) (out : List ℕ) (a : Answer) → limited c a ≡ false → answer_of out a ≡ At → Call c ≡ answer_of out a
  stands c out (Listing n) h e = listed c _ (sym e)
  stands c out (Refused k) h e = refused_as c k h (sym e)
  stands c out (Doubled d) h e = refused-else c 10 (λ z. absurd (omega arith)) (λ z. absurd (omega arith)) (sym e)

listed-stands : (c : Caller) (n : ℕ) → limited c (Listing n) ≡ true → ⊥
listed-stands Page n e = let z : ◌≡◌ {A = ℕ} 0 1 = cc in absurd (omega arith)
listed-stands Desk n e = let z : ◌≡◌ {A = ℕ} 0 1 = cc in absurd (omega arith)

doubled-stands : (c : Caller) (d : ℕ) → limited c (Doubled d) ≡ true → ⊥
doubled-stands Page d e = let z : ◌≡◌ {A = ℕ} 0 1 = cc in absurd (omega arith)
doubled-stands Desk d e = let z : ◌≡◌ {A = ℕ} 0 1 = cc in absurd (omega arith)

-- a refusal leaves the output
limited-kept : (c : Caller) (lim : bytes.Limits) (m : ℕ) (s : List ℕ) (q : Query) (out out' : List ℕ) (a : Answer) → MergesUnder lim m s q out out' a → limited c a ≡ true → out' ≡ out
unfolding output_after
limited-kept c lim m s q out out' (Listing n) F e = absurd (listed-stands c n e)
limited-kept c lim m s q out out' (Refused k) F e = F.output ∙ ap (output_after out) (sym F.answer)
limited-kept c lim m s q out out' (Doubled d) F e = absurd (doubled-stands c d e)

-- The first run's answer, or the second's where a limit was met that is not the caller's own, is the call's.
pub settled : (s : List ℕ) (q : Query) (lim : Limits) → limits_of lim ≡ small_limits → (m : ℕ) (out out₁ out' : List ℕ) (a r : Answer) → MergesUnder (limits_of lim) m s q out out₁ a → Settles (limited q.caller a) s q a out₁ out' r → Merges q.caller s q.left q.right q.budget true out out' r
settled s q lim z m out out₁ out' a r F Z = by (limited q.caller a) refl Z
  where
    by : (b : Bool) → limited q.caller a ≡ b → Settles b s q a out₁ out' r → Merges q.caller s q.left q.right q.budget true out out' r
    by false e (g, h) =
        let x : answer_of out₁ a ≡ merge_at small_limits m s q (length out) = F.answer ∙ ap (λ (l : bytes.Limits). merge_at l m s q (length out)) z in
        let w : merge_for q.caller true s q.left q.right q.budget (length out) ≡ merge_at (limits_of lim) m s q (length out) = stands s q (length out) m q.caller out₁ a e x ∙ F.answer in
        rw (g, h) (record { answer = F.answer ∙ sym w; output = F.output ∙ ap (output_after out) (sym w); carries = F.carries })
    by true e M = rw (← limited-kept q.caller (limits_of lim) m s q out out₁ a F e) M
