-- The ways in which the definition of a call ends (`merge_for`); from the contract of a call, which answer goes with which end; and the run behind a listing.
-- `who` is the call's caller (02, Paper 9), here and in the modules below: the quote page or the account desk, each with its own limit of pairs.
use Rattle.std.specs.Prelude.{◌≡◌, refl, ◌≢◌, ◌↔◌, Bool, true, false, List, ◌++◌, ℕ, ◌≤◌, ◌<◌, ltb, leb, length, take, drop}
use Rattle.std.proofs.Common.{sym, ap, ◌∙◌, arith, length-take-le, drop_at, lt-ltb, ltb-true, ltb-false, leb-true, leb-false}
use Rattle.spec.specs.Bytes.{Res, ok, refused, rule, ◌>>=◌}
use Rattle.spec.specs.Image.{Tables, tables_of, image_of}
use Rattle.spec.specs.Graph.{skipped_in}
use Rattle.spec.specs.Run.{limits_for, Outcome, run_of}
use Rattle.spec.specs.declared.Caller.{Caller}
use Rattle.spec.specs.Listing.{listing_of}
use Rattle.spec.specs.Merge.{merge_for, output_after}
use Rattle.laws.specs.Valid.{Keeps}
use Rattle.laws.specs.Accepted as A
use Rattle.laws.specs.Results.{refused-ok, ok-inj, refused-inj}
use Rattle.contract.specs.declared.Answer.{Answer}
use Rattle.contract.specs.declared.Answer.TheVariants.{Listing, Refused, Doubled}
use Rattle.contract.specs.Merges.{Merges}
use Rattle.contract.specs.Answers.{answer_of, Carries}

-- both queried classes are classes of the image
abbrev pub Asked : List ℕ → ℕ → ℕ → Type 0
Asked image left right = (left < length (tables_of image).classes) × (right < length (tables_of image).classes)

-- the image keeps the rules of the table of refusals from 2 on, below k
abbrev pub Sound : List ℕ → ℕ → Type 0
Sound image k = (j : ℕ) → 2 ≤ j → j < k → Keeps image j

-- nothing of 1 to 11 is the case
pub record Taken (fit : Bool) (image : List ℕ) (left right : ℕ) : Type 0 where
  pub fits : fit ≡ true
  pub sound : Sound image 11
  pub asked : Asked image left right

-- (02, Paper 7) "the number of monomial pairs passed over in building" of a call
abbrev pub passed_over : Caller → List ℕ → ℕ → ℕ → ℕ → ℕ
passed_over who image left right budget = skipped_in (limits_for who) (tables_of image) (left, right) budget

-- what a call whose run has the outcome o prints
abbrev pub shown : Caller → List ℕ → ℕ → ℕ → ℕ → Outcome → List ℕ
shown who image left right budget o = listing_of (passed_over who image left right budget) o

-- ---- the definition, case by case
pub data Way (who : Caller) (fit : Bool) (image : List ℕ) (left right budget room : ℕ) (m : Res (List ℕ)) : Type 0 where
  short : m ≡ refused 1 → fit ≡ false → Way who fit image left right budget room m
  unsound : (k : ℕ) → m ≡ refused k → fit ≡ true → image_of image ≡ refused k → Way who fit image left right budget room m
  outside : m ≡ refused 11 → fit ≡ true → image_of image ≡ ok (tables_of image) → (Asked image left right → ⊥) → Way who fit image left right budget room m
  stopped : (k : ℕ) → m ≡ refused k → Taken fit image left right → run_of (limits_for who) (tables_of image) (left, right) budget ≡ refused k → Way who fit image left right budget room m
  over : (o : Outcome) → m ≡ refused 14 → Taken fit image left right → run_of (limits_for who) (tables_of image) (left, right) budget ≡ ok o → room < length (shown who image left right budget o) → Way who fit image left right budget room m
  listed : (o : Outcome) → m ≡ ok (shown who image left right budget o) → Taken fit image left right → run_of (limits_for who) (tables_of image) (left, right) budget ≡ ok o → length (shown who image left right budget o) ≤ room → Way who fit image left right budget room m

sound-of : (image : List ℕ) (t : Tables) → image_of image ≡ ok t → (t ≡ tables_of image) × Sound image 11
sound-of image t e = let (q, k) = (A.accepted image t).0 e in (q, λ j a b. k j a (omega arith))

pub read_of : (image : List ℕ) → Sound image 11 → image_of image ≡ ok (tables_of image)
read_of image s = (A.accepted image (tables_of image)).1 (refl, λ n a b. s n a (omega arith))

-- past the rules 1 to 11 it is the run, and 14 last
pub taken_is : (who : Caller) (fit : Bool) (image : List ℕ) (left right budget room : ℕ) → Taken fit image left right
    → merge_for who fit image left right budget room ≡ (run_of (limits_for who) (tables_of image) (left, right) budget >>= λ o. rule 14 (leb (length (shown who image left right budget o)) room) >>= λ _. ok (shown who image left right budget o))
unfolding merge_for
taken_is who fit image left right budget room T =
    rw (T.fits, read_of image T.sound, lt-ltb left (length (tables_of image).classes) T.asked.0, lt-ltb right (length (tables_of image).classes) T.asked.1) refl

pub way : (who : Caller) (fit : Bool) (image : List ℕ) (left right budget room : ℕ) → Way who fit image left right budget room (merge_for who fit image left right budget room)
unfolding merge_for
way who false image left right budget room = short refl refl
way who true image left right budget room = go (image_of image) refl
  where
    n : ℕ
    n = length (tables_of image).classes

    fits : (o : Outcome) → Taken true image left right → run_of (limits_for who) (tables_of image) (left, right) budget ≡ ok o → (b : Bool) → leb (length (shown who image left right budget o)) room ≡ b → Way who true image left right budget room (merge_for who true image left right budget room)
    fits o T k true q = listed o (taken_is who true image left right budget room T ∙ rw (k, q) refl) T k (leb-true (length (shown who image left right budget o)) room q)
    fits o T k false q = over o (taken_is who true image left right budget room T ∙ rw (k, q) refl) T k (leb-false (length (shown who image left right budget o)) room q)

    ran : Taken true image left right → (x : Res Outcome) → run_of (limits_for who) (tables_of image) (left, right) budget ≡ x → Way who true image left right budget room (merge_for who true image left right budget room)
    ran T (refused k) q = stopped k (taken_is who true image left right budget room T ∙ rw q refl) T q
    ran T (ok o) q = fits o T q (leb (length (shown who image left right budget o)) room) refl

    asks : image_of image ≡ ok (tables_of image) → Sound image 11 → (a b : Bool) → ltb left n ≡ a → ltb right n ≡ b → Way who true image left right budget room (merge_for who true image left right budget room)
    asks e S false b p q = outside (rw (e, p) refl) refl e (λ h. absurd (omega (arith, h.0, ltb-false left n p)))
    asks e S true false p q = outside (rw (e, p, q) refl) refl e (λ h. absurd (omega (arith, h.1, ltb-false right n q)))
    asks e S true true p q = ran (record { fits = refl; sound = S; asked = (ltb-true left n p, ltb-true right n q) }) (run_of (limits_for who) (tables_of image) (left, right) budget) refl

    go : (x : Res Tables) → image_of image ≡ x → Way who true image left right budget room (merge_for who true image left right budget room)
    go (refused k) e = unsound k (rw e refl) refl e
    go (ok t) e = let (q, S) = sound-of image t e in asks (e ∙ ap ok q) S (ltb left n) (ltb right n) refl refl

-- ---- the answer and the definition's number
refused-of : {j k : ℕ} → ◌≡◌ {A = Res (List ℕ)} (refused j) (refused k) → j ≡ k
refused-of e = refused-inj e

module _ (who : Caller) (image : List ℕ) (left right budget : ℕ) (fit : Bool) (out out' : List ℕ) (r : Answer) (m : Merges who image left right budget fit out out' r) where
  abbrev M : Res (List ℕ)
  M = merge_for who fit image left right budget (length out)

  pub refused-iff : (k : ℕ) → k ≢ 10 → (r ≡ Refused k) ↔ (M ≡ refused k)
  refused-iff k n = (λ e. sym m.answer ∙ ap (answer_of out') e, λ e. go r (m.answer ∙ e))
    where
      go : (z : Answer) → answer_of out' z ≡ refused k → z ≡ Refused k
      go (Listing i) e = absurd (refused-ok (sym e))
      go (Refused j) e = ap Refused (refused-of e)
      go (Doubled c) e = absurd (n (sym (refused-of e)))

  pub doubled-iff : ((c : ℕ) × (r ≡ Doubled c)) ↔ (M ≡ refused 10)
  doubled-iff = (λ e. sym m.answer ∙ ap (answer_of out') e.1, λ e. go r (m.answer ∙ e) m.carries)
    where
      go : (z : Answer) → answer_of out' z ≡ refused 10 → Carries image out' z → (c : ℕ) × (z ≡ Doubled c)
      go (Listing i) e h = absurd (refused-ok (sym e))
      go (Refused j) e h = absurd (h (refused-of e))
      go (Doubled c) e h = (c, refl)

  pub listing-iff : ((n : ℕ) × (r ≡ Listing n)) ↔ ((l : List ℕ) × (M ≡ ok l))
  listing-iff = (λ e. (take e.0 out', sym m.answer ∙ ap (answer_of out') e.1), λ e. go r (m.answer ∙ e.1))
    where
      go : (z : Answer) {l : List ℕ} → answer_of out' z ≡ ok l → (n : ℕ) × (z ≡ Listing n)
      go (Listing i) e = (i, refl)
      go (Refused j) e = absurd (refused-ok e)
      go (Doubled c) e = absurd (refused-ok e)

-- ---- an accepted call
-- The run behind a listing of n bytes: its outcome o, what it printed, and what the output buffer then holds.
pub record Accepted (who : Caller) (image : List ℕ) (left right budget : ℕ) (fit : Bool) (out out' : List ℕ) (n : ℕ) : Type 0 where
  pub taken : Taken fit image left right
  pub o : Outcome
  pub ran : run_of (limits_for who) (tables_of image) (left, right) budget ≡ ok o
  pub long : n ≡ length (shown who image left right budget o)
  pub room : n ≤ length out
  pub listed : take n out' ≡ shown who image left right budget o
  -- "leaves output past the listing untouched"
  pub rest : drop n out' ≡ drop n out
  pub whole : out' ≡ shown who image left right budget o ++ drop n out

take_short : (n : ℕ) (l s : List ℕ) → take n l ≡ s → n ≤ length l → n ≡ length s
take_short n l s e h = sym (length-take-le n l h) ∙ ap length e

pub accepted : (who : Caller) (image : List ℕ) (left right budget : ℕ) (fit : Bool) (out out' : List ℕ) (n : ℕ) → Merges who image left right budget fit out out' (Listing n) → Accepted who image left right budget fit out out' n
unfolding output_after
accepted who image left right budget fit out out' n m = go (way who fit image left right budget (length out))
  where
    none : (k : ℕ) → merge_for who fit image left right budget (length out) ≡ refused k → Accepted who image left right budget fit out out' n
    none k e = absurd (refused-ok (sym (m.answer ∙ e)))

    go : Way who fit image left right budget (length out) (merge_for who fit image left right budget (length out)) → Accepted who image left right budget fit out out' n
    go (short e f) = none 1 e
    go (unsound k e f g) = none k e
    go (outside e f g h) = none 11 e
    go (stopped k e T f) = none k e
    go (over o e T f h) = none 14 e
    go (listed o e T f h) =
        let l : take n out' ≡ shown who image left right budget o = ok-inj (m.answer ∙ e) in
        let z : n ≡ length (shown who image left right budget o) = take_short n out' (shown who image left right budget o) l m.carries in
        let w : out' ≡ shown who image left right budget o ++ drop (length (shown who image left right budget o)) out = m.output ∙ ap (output_after out) e in
        let v : out' ≡ shown who image left right budget o ++ drop n out = w ∙ ap (λ (k : ℕ). shown who image left right budget o ++ drop k out) (sym z) in
        record { taken = T; o = o; ran = f; long = z; room = omega arith; listed = l; rest = ap (drop n) v ∙ drop_at (shown who image left right budget o) (drop n out) n (sym z); whole = v }
