-- The first pass of reading: whether a text is a formula, with no term in sight and no precedence. An infix sign needs no frame; only "right behind `[`" must be told from "a child is wanted", or `a[1#0 + ]` would pass.
use Rattle.std.specs.Prelude.{◌≡◌, refl, Bool, true, false, List, [], ◌∷◌, ℕ, suc, leb, eqb}
use Rattle.std.proofs.Common.{sym, ap, ◌∙◌, zero-le, arith, le-leb}
use Rattle.spec.specs.Bytes.{pick, ok}
use Rattle.laws.specs.Results.{refused-ok}
use Rattle.formula.specs.Card.{Tree, two, many, marked, Trees, none, also, count, branches, Mark, literal, between, list, next, close, opens, shuts, begin, or, end, prec_of, left_level}
use Rattle.formula.specs.Reader.{snoc, Frame, bracket, left, in_list, in_marked, Top, State, wants, has, wrong, reduce, close_empty, next_item, close_list, next_branch, close_marked, close_bracket, step, run, finish, read_marks, alone}

-- what is open: a bracket, a list or a marked place with so many children before
pub data Open : Type 0 where
  aBracket : Open
  items : ℕ → Open
  choices : ℕ → Open

pub data Phase : Type 0 where
  -- right behind `[`, whose list is not on the stack yet
  fresh : List Open → Phase
  wanted : List Open → Phase
  done : List Open → Phase
  failed : Phase

unfoldable pub next_open : List Open → Phase
next_open [] = failed
next_open (aBracket ∷ k) = failed
next_open (items n ∷ k) = wanted (items (suc n) ∷ k)
next_open (choices n ∷ k) = failed

unfoldable pub close_open : List Open → Phase
close_open [] = failed
close_open (aBracket ∷ k) = failed
close_open (items n ∷ k) = pick (eqb (suc n) 2) failed (done k)
close_open (choices n ∷ k) = failed

unfoldable pub or_open : List Open → Phase
or_open [] = failed
or_open (aBracket ∷ k) = failed
or_open (items n ∷ k) = failed
or_open (choices n ∷ k) = wanted (choices (suc n) ∷ k)

unfoldable pub end_open : List Open → Phase
end_open [] = failed
end_open (aBracket ∷ k) = failed
end_open (items n ∷ k) = failed
end_open (choices n ∷ k) = pick (branches (suc n)) (done k) failed

unfoldable pub shut_open : List Open → Phase
shut_open [] = failed
shut_open (aBracket ∷ k) = done k
shut_open (items n ∷ k) = failed
shut_open (choices n ∷ k) = failed

-- a mark where a child is wanted
unfoldable pub begins : List Open → Mark → Phase
begins k (literal v o) = done k
begins k (between o) = failed
begins k (list o) = fresh k
begins k next = failed
begins k close = failed
begins k opens = wanted (aBracket ∷ k)
begins k shuts = failed
begins k begin = wanted (choices 0 ∷ k)
begins k or = failed
begins k end = failed

unfoldable pub freshly : List Open → Mark → Phase
unfolding begins
freshly k (literal v o) = begins (items 0 ∷ k) (literal v o)
freshly k (between o) = failed
freshly k (list o) = begins (items 0 ∷ k) (list o)
freshly k next = failed
freshly k close = done k
freshly k opens = begins (items 0 ∷ k) opens
freshly k shuts = failed
freshly k begin = begins (items 0 ∷ k) begin
freshly k or = failed
freshly k end = failed

-- a mark behind a child
unfoldable pub follows : List Open → Mark → Phase
unfolding next_open close_open or_open end_open shut_open
follows k (literal v o) = failed
follows k (between o) = wanted k
follows k (list o) = failed
follows k next = next_open k
follows k close = close_open k
follows k opens = failed
follows k shuts = shut_open k
follows k begin = failed
follows k or = or_open k
follows k end = end_open k

unfoldable pub pass : Phase → Mark → Phase
unfolding begins freshly follows
pass (fresh k) c = freshly k c
pass (wanted k) c = begins k c
pass (done k) c = follows k c
pass failed c = failed

unfoldable pub pass_all : Phase → List Mark → Phase
unfolding pass
pass_all u [] = u
pass_all u (c ∷ s) = pass_all (pass u c) s

-- ---- it is the reader with its terms forgotten
unfoldable pub opened : List Frame → List Open
unfolding count
opened [] = []
opened (bracket ∷ k) = aBracket ∷ opened k
opened (left b o ∷ k) = opened k
opened (in_list o l ∷ k) = items (count l) ∷ opened k
opened (in_marked l ∷ k) = choices (count l) ∷ opened k

unfoldable pub waiting : List Frame → Phase
unfolding opened
waiting [] = wanted []
waiting (bracket ∷ k) = wanted (opened (bracket ∷ k))
waiting (left b o ∷ k) = wanted (opened (left b o ∷ k))
waiting (in_list o none ∷ k) = fresh (opened k)
waiting (in_list o (also a l) ∷ k) = wanted (opened (in_list o (also a l) ∷ k))
waiting (in_marked l ∷ k) = wanted (opened (in_marked l ∷ k))

unfoldable pub phase : State → Phase
unfolding waiting
phase (wants k) = waiting k
phase (has k a) = done (opened k)
phase wrong = failed

count-snoc : (l : Trees) (a : Tree) → count (snoc l a) ≡ suc (count l)
unfolding count snoc
count-snoc none a = refl
count-snoc (also b l) a = ap suc (count-snoc l a)

-- where a child is wanted: every mark but `]` does the same right behind `[`
abbrev Plain : Mark → Type 0
Plain c = (k : List Open) → freshly k c ≡ begins (items 0 ∷ k) c

waits : (k : List Frame) (c : Mark) → Plain c → pass (waiting k) c ≡ begins (opened k) c
unfolding waiting opened pass count
waits [] c h = refl
waits (bracket ∷ k) c h = refl
waits (left b o ∷ k) c h = refl
waits (in_list o none ∷ k) c h = h (opened k)
waits (in_list o (also a l) ∷ k) c h = refl
waits (in_marked l ∷ k) c h = refl

-- a list with a child, a bracket or a sign behind: not right behind `[`
waiting-snoc : (o : ℕ) (l : Trees) (a : Tree) (k : List Frame) → waiting (in_list o (snoc l a) ∷ k) ≡ wanted (items (suc (count l)) ∷ opened k)
unfolding waiting opened snoc count
waiting-snoc o none a k = refl
waiting-snoc o (also b l) a k = ap (λ (n : ℕ). wanted (items (suc n) ∷ opened k)) (count-snoc l a)

-- finishing operations opens and closes nothing, and leaves none on top where all are finished
opened-reduce : (t : List ℕ) (m : ℕ) (k : List Frame) (a : Tree) → opened (reduce t m k a).frames ≡ opened k
unfolding reduce opened
opened-reduce t m [] a = refl
opened-reduce t m (bracket ∷ k) a = refl
opened-reduce t m (in_list o l ∷ k) a = refl
opened-reduce t m (in_marked l ∷ k) a = refl
opened-reduce t m (left b o ∷ k) a = go (leb m (prec_of t o)) (opened-reduce t m k (two o b a))
  where
    go : (x : Bool) → opened (reduce t m k (two o b a)).frames ≡ opened k → opened (elim x as (λ z. Top) [ true ↦ reduce t m k (two o b a) | false ↦ record { frames = left b o ∷ k; value = a } ]).frames ≡ opened k
    go true h = h
    go false h = refl

abbrev Done : List Frame → Type 0
Done [] = Unit
Done (bracket ∷ k) = Unit
Done (left b o ∷ k) = ⊥
Done (in_list o l ∷ k) = Unit
Done (in_marked l ∷ k) = Unit

reduced-done : (t : List ℕ) (k : List Frame) (a : Tree) → Done (reduce t 0 k a).frames
unfolding reduce
reduced-done t [] a = tt
reduced-done t (bracket ∷ k) a = tt
reduced-done t (in_list o l ∷ k) a = tt
reduced-done t (in_marked l ∷ k) a = tt
reduced-done t (left b o ∷ k) a = rw (le-leb 0 (prec_of t o) zero-le, reduce) (reduced-done t k (two o b a))

at_next : (k : List Frame) (a : Tree) → Done k → phase (next_item k a) ≡ next_open (opened k)
unfolding next_item phase opened next_open
at_next [] a h = refl
at_next (bracket ∷ k) a h = refl
at_next (left b o ∷ k) a h = absurd h
at_next (in_list o l ∷ k) a h = waiting-snoc o l a k
at_next (in_marked l ∷ k) a h = refl

at-close : (k : List Frame) (a : Tree) → Done k → phase (close_list k a) ≡ close_open (opened k)
unfolding close_list phase opened close_open
at-close [] a h = refl
at-close (bracket ∷ k) a h = refl
at-close (left b o ∷ k) a h = absurd h
at-close (in_list o l ∷ k) a h = rw (count-snoc l a) (go (eqb (suc (count l)) 2))
  where
    go : (x : Bool) → phase (pick x wrong (has k (many o (snoc l a)))) ≡ pick x failed (done (opened k))
    go true = refl
    go false = refl
at-close (in_marked l ∷ k) a h = refl

at-or : (k : List Frame) (a : Tree) → Done k → phase (next_branch k a) ≡ or_open (opened k)
unfolding next_branch phase opened or_open
at-or [] a h = refl
at-or (bracket ∷ k) a h = refl
at-or (left b o ∷ k) a h = absurd h
at-or (in_list o l ∷ k) a h = refl
at-or (in_marked l ∷ k) a h = ap (λ (n : ℕ). wanted (choices n ∷ opened k)) (count-snoc l a)

at-end : (k : List Frame) (a : Tree) → Done k → phase (close_marked k a) ≡ end_open (opened k)
unfolding close_marked phase opened end_open
at-end [] a h = refl
at-end (bracket ∷ k) a h = refl
at-end (left b o ∷ k) a h = absurd h
at-end (in_list o l ∷ k) a h = refl
at-end (in_marked l ∷ k) a h = rw (count-snoc l a) (go (branches (suc (count l))))
  where
    go : (x : Bool) → phase (pick x (has k (marked (snoc l a))) wrong) ≡ pick x (done (opened k)) failed
    go true = refl
    go false = refl

at-shut : (k : List Frame) (a : Tree) → Done k → phase (close_bracket k a) ≡ shut_open (opened k)
unfolding close_bracket phase opened shut_open
at-shut [] a h = refl
at-shut (bracket ∷ k) a h = refl
at-shut (left b o ∷ k) a h = absurd h
at-shut (in_list o l ∷ k) a h = refl
at-shut (in_marked l ∷ k) a h = refl

at-empty : (k : List Frame) → phase (close_empty k) ≡ pass (waiting k) close
unfolding close_empty phase waiting pass
at-empty [] = refl
at-empty (bracket ∷ k) = refl
at-empty (left b o ∷ k) = refl
at-empty (in_list o none ∷ k) = refl
at-empty (in_list o (also a l) ∷ k) = refl
at-empty (in_marked l ∷ k) = refl

pub phase-step : (t : List ℕ) (u : State) (c : Mark) → phase (step t u c) ≡ pass (phase u) c
unfolding step phase pass begins freshly follows waiting opened count
phase-step t (wants k) (literal v o) = sym (waits k (literal v o) (λ j. refl))
phase-step t (wants k) (between o) = sym (waits k (between o) (λ j. refl))
phase-step t (wants k) (list o) = sym (waits k (list o) (λ j. refl))
phase-step t (wants k) next = sym (waits k next (λ j. refl))
phase-step t (wants k) close = at-empty k
phase-step t (wants k) opens = sym (waits k opens (λ j. refl))
phase-step t (wants k) shuts = sym (waits k shuts (λ j. refl))
phase-step t (wants k) begin = sym (waits k begin (λ j. refl))
phase-step t (wants k) or = sym (waits k or (λ j. refl))
phase-step t (wants k) end = sym (waits k end (λ j. refl))
phase-step t (has k a) (literal v o) = refl
phase-step t (has k a) (between o) = ap wanted (opened-reduce t (left_level t (prec_of t o)) k a)
phase-step t (has k a) (list o) = refl
phase-step t (has k a) next = at_next (reduce t 0 k a).frames (reduce t 0 k a).value (reduced-done t k a) ∙ ap next_open (opened-reduce t 0 k a)
phase-step t (has k a) close = at-close (reduce t 0 k a).frames (reduce t 0 k a).value (reduced-done t k a) ∙ ap close_open (opened-reduce t 0 k a)
phase-step t (has k a) opens = refl
phase-step t (has k a) shuts = at-shut (reduce t 0 k a).frames (reduce t 0 k a).value (reduced-done t k a) ∙ ap shut_open (opened-reduce t 0 k a)
phase-step t (has k a) begin = refl
phase-step t (has k a) or = at-or (reduce t 0 k a).frames (reduce t 0 k a).value (reduced-done t k a) ∙ ap or_open (opened-reduce t 0 k a)
phase-step t (has k a) end = at-end (reduce t 0 k a).frames (reduce t 0 k a).value (reduced-done t k a) ∙ ap end_open (opened-reduce t 0 k a)
phase-step t wrong c = refl

pub phase-run : (t : List ℕ) (u : State) (s : List Mark) → phase (run t u s) ≡ pass_all (phase u) s
unfolding run pass_all
phase-run t u [] = refl
phase-run t u (c ∷ s) = phase-run t (step t u c) s ∙ ap (λ z. pass_all z s) (phase-step t u c)

-- nothing open and nothing to finish: the stack is empty
ended : (k : List Frame) (a : Tree) → Done k → opened k ≡ [] → (b : Tree) × (alone k a ≡ ok b)
unfolding alone opened
ended [] a h e = (a, refl)
ended (bracket ∷ k) a h e = absurd (let y : ◌≡◌ {A = ℕ} 0 1 = cc in omega arith)
ended (left b o ∷ k) a h e = absurd h
ended (in_list o l ∷ k) a h e = absurd (let y : ◌≡◌ {A = ℕ} 0 1 = cc in omega arith)
ended (in_marked l ∷ k) a h e = absurd (let y : ◌≡◌ {A = ℕ} 0 1 = cc in omega arith)

alone-nil : (k : List Frame) (a b : Tree) → alone k a ≡ ok b → k ≡ []
unfolding alone
alone-nil [] a b e = refl
alone-nil (f ∷ k) a b e = absurd (refused-ok e)

-- Marks are read exactly where this pass ends behind a child with nothing open.
pub syntax-right : (t : List ℕ) (s : List Mark) → pass_all (wanted []) s ≡ done [] → (a : Tree) × (read_marks t s ≡ ok a)
unfolding read_marks finish phase waiting
syntax-right t s e = go (run t (wants []) s) (phase-run t (wants []) s ∙ e)
  where
    apart : {x : List Open} {k : List Open} → wanted x ≡ done k → ⊥
    apart e = let y : ◌≡◌ {A = ℕ} 0 1 = cc in omega arith

    fail : {k : List Open} → failed ≡ done k → ⊥
    fail e = let y : ◌≡◌ {A = ℕ} 0 1 = cc in omega arith

    new : {x : List Open} {k : List Open} → fresh x ≡ done k → ⊥
    new e = let y : ◌≡◌ {A = ℕ} 0 1 = cc in omega arith

    still : (k : List Frame) → waiting k ≡ done [] → ⊥
    still [] e = apart e
    still (bracket ∷ k) e = apart e
    still (left b o ∷ k) e = apart e
    still (in_list o none ∷ k) e = new e
    still (in_list o (also a l) ∷ k) e = apart e
    still (in_marked l ∷ k) e = apart e

    go : (u : State) → phase u ≡ done [] → (a : Tree) × (finish t u ≡ ok a)
    go (wants k) e = absurd (still k e)
    go (has k a) e =
        let z : opened k ≡ [] = cc in
        ended (reduce t 0 k a).frames (reduce t 0 k a).value (reduced-done t k a) (opened-reduce t 0 k a ∙ z)
    go wrong e = absurd (fail e)

pub syntax-all : (t : List ℕ) (s : List Mark) (a : Tree) → read_marks t s ≡ ok a → pass_all (wanted []) s ≡ done []
unfolding read_marks finish phase waiting opened
syntax-all t s a e = sym (phase-run t (wants []) s) ∙ go (run t (wants []) s) e
  where
    go : (u : State) → finish t u ≡ ok a → phase u ≡ done []
    go (wants k) e = absurd (refused-ok e)
    go (has k b) e = ap done (sym (opened-reduce t 0 k b) ∙ ap opened (alone-nil (reduce t 0 k b).frames (reduce t 0 k b).value a e))
    go wrong e = absurd (refused-ok e)
