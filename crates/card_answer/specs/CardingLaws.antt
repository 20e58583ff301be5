-- What the parts of program `card` give together.
use Rattle.std.specs.Prelude.{Result, Ok, Err, ◌≡◌, Bool, not, List, [], ◌∷◌, ◌++◌, ℕ, zero, suc, ◌+◌, ◌-◌, ◌≤◌, ◌<◌, leb, get_or, drop, set, replicate}
use Rattle.std.proofs.Math.Path.{refl, sym, ap}
use Rattle.std.proofs.Common.{◌∙◌, append_assoc, arith, add-one, length-append, length-drop, take-append-drop, drop-drop}
use Rattle.std.proofs.Math.Bool.{true, false}
use Rattle.std.proofs.Math.Dec.{eqb}
use Rattle.std.proofs.Math.ListN.{length, take, drop_of_length-le}
use Rattle.std.proofs.Math.Seq.{drop-cons, length-take-le, drop-append-add}
use Rattle.std.proofs.lemmas.List.{set_split, take-append-le, drop-append-le}
use borrow.Author.Tests.{eq-eqb, ne_eqb, le-leb}
use Rattle.spec.specs.Bytes.{place, be2, be4, Res, ok, refused, rule, ◌>>=◌, work_after}
use Rattle.spec.specs.Merge.{INPUT, OUTPUT, merge_for, merge_of, output_after, printed}
use Rattle.spec.specs.declared.Caller.TheVariants.{Desk}
use Rattle.spec.specs.Run.{document_limits}
use Rattle.spec.specs.Bytes as bytes
use Rattle.formula.specs.Lines.{read_lines}
use Rattle.spec.specs.Pool.{Pool}
use Rattle.formula.specs.Lexer.{write_card}
use Rattle.formula.specs.Lines.{card_of_lines}
use Rattle.formula.specs.Programs.{tabled, table_of, behind, asked, LISTING, behind_first, card_by_lines, card_written}
use Rattle.formula_laws.specs.LineTerms.{read-lined}
use Rattle.table_frames.specs.TableLaws.{tabled-says}
use Rattle.frames.specs.Frame.{framed, refusal_bytes}
use Rattle.frames.specs.FrameLaws.{framed-says}
use Rattle.frames.specs.Printing.{Front}
use Rattle.work_clearing.specs.Cleared as C
use Rattle.card_contract.specs.Calls.{Answers}
use Rattle.card_contract.specs.declared.Answer.{Answer}
use Rattle.card_contract.specs.declared.Answer.TheVariants.{Text, Refused}
use Rattle.contract.specs.declared.Answer as merge
use Rattle.contract.specs.declared.Answer.TheVariants as A
use Rattle.contract.specs.Answers as merged
use Rattle.answer.specs.Responding.{Asks}
use Rattle.terms.specs.Buffers.{pool_of, count_in}
use Rattle.terms.specs.PoolLaws.{pool-length}
use Rattle.terms.specs.Chains.{Holds, Rooms}
use Rattle.term_lines.specs.Loading.{Loads}
use Rattle.term_lines.specs.declared.Fault.{Fault}
use Rattle.term_lines.specs.declared.Fault.TheVariants as F
use Rattle.contract.specs.Merges as merging
use Rattle.card_contract.specs.Calls as calls
use Rattle.card_buffers.specs.BufferLaws.{roomy}
use Rattle.card_answer.specs.Carding.{Staged, merged_as, merged_of, ReadsBehind, lines_asked, LoadsMerge, card_asked, Short, AnswersCard, Feeds, Responds, Lent}

-- ---- the place behind the first line
module _ (s : List ℕ) (i : ℕ) where
  pub feed-here : i < length s → get_or s i 0 ≡ 10 → place (eqb 10) (drop i s) ≡ 0
  unfolding place
  feed-here h e = let z : eqb 10 (get_or s i 0) ≡ true = eq-eqb 10 (get_or s i 0) (sym e) in rw (drop-cons s i 0, place, z) refl

  pub feed-later : i < length s → (get_or s i 0 ≡ 10 → ⊥) → place (eqb 10) (drop i s) ≡ suc (place (eqb 10) (drop (i + 1) s))
  unfolding place
  feed-later h e = let z : eqb 10 (get_or s i 0) ≡ false = ne_eqb 10 (get_or s i 0) (λ q. e (sym q)) in rw (add-one, drop-cons s i 0, place, z) refl

  pub feed-never : length s ≤ i → place (eqb 10) (drop i s) ≡ 0
  unfolding place
  feed-never h = rw drop_of_length-le refl

pub behind-at : (s : List ℕ) (i : ℕ) → i + 0 ≡ place (eqb 10) s → drop (i + 1) s ≡ behind_first s
behind-at s i e = let z : i + 1 ≡ suc (place (eqb 10) s) = omega (arith, e) in ap (λ (k : ℕ). drop k s) z

pub behind-none : (s : List ℕ) (i : ℕ) → length s ≤ i → i + 0 ≡ place (eqb 10) s → drop i s ≡ behind_first s
behind-none s i h e = let z : length s ≤ suc (place (eqb 10) s) = omega (arith, e, h) in drop_of_length-le s h ∙ sym (drop_of_length-le s z)

-- ---- the lines behind a listing's first one
pub reads-behind : (lim : bytes.Limits) (listing s list terms runs list' terms' runs' : List ℕ) (x : Result Unit Fault) → lim ≡ document_limits → s ≡ behind_first listing → Loads lim s list terms runs list' terms' runs' x → ReadsBehind listing terms' runs' (merged_as x)
reads-behind lim listing s list terms runs list' terms' runs' (Ok tt) e f A = record { answer = A.answer ∙ rw (e, f) refl; holds = A.grows.holds }
reads-behind lim listing s list terms runs list' terms' runs' (Err F.Broken) e f A = record { answer = A.answer ∙ rw (e, f) refl; holds = A.grows.holds }
reads-behind lim listing s list terms runs list' terms' runs' (Err F.Full) e f A = record { answer = A.answer ∙ rw (e, f) refl; holds = A.grows.holds }

pub staged-rooms : (lim : bytes.Limits) {list terms runs : List ℕ} → lim ≡ document_limits → Staged list terms runs → Rooms lim terms runs
staged-rooms lim e S = rw e S.rooms

refused-pool : {k : ℕ} → ◌≡◌ {A = Result Unit ℕ} (Err k) (Ok tt) → ⊥
refused-pool e = let z : ◌≡◌ {A = ℕ} 0 1 = cc in omega arith

-- ---- the merge and its lines
pub none-off : (n : ℕ) → n - 0 ≡ n
none-off n = omega arith

pub image-inside : (s : List ℕ) (n : ℕ) → framed s ≡ true → n ≡ be4 s 0 + 4 → n ≤ length s
image-inside s n f e = omega (arith, (framed-says s f).ends, e)

-- buffers as long as those
pub staged-kept : {a b c a' b' c' : List ℕ} → Staged a b c → length a' ≡ length a → length b' ≡ length b → length c' ≡ length c → Staged a' b' c'
staged-kept S p q r = record { staged = rw p S.staged; rooms = record { few = S.rooms.few; ends = S.rooms.ends; long = rw q S.rooms.long; roomy = rw r S.rooms.roomy } }

module _ (s out out' terms' runs' : List ℕ) (fit : Bool) (a : merge.Answer) (q : fit ≡ true) (w : length out ≡ LISTING) (m : Asks s fit out out' a) where
  asks : merge_of true (take (be4 s 0 + 4) s) (be2 s (be4 s 0 + 4)) (be2 s (be4 s 0 + 4 + 2)) (be4 s (be4 s 0 + 4 + 4)) LISTING ≡ merged.answer_of out' a
  unfolding merge_of
  asks = let z : merge_for Desk fit (take (be4 s 0 + 4) s) (be2 s (be4 s 0 + 4)) (be2 s (be4 s 0 + 4 + 2)) (be4 s (be4 s 0 + 4 + 4)) (length out) ≡ merged.answer_of out' a = sym m.answer in rw (q, w) at z

  pub loads-listing : (n : ℕ) → a ≡ A.Listing n → (r : Result Unit ℕ) → ReadsBehind (take (n - 0) out') terms' runs' r → LoadsMerge s terms' runs' r
  loads-listing n e r P = let R : ReadsBehind (take n out') terms' runs' r = rw none-off at P in let z = asks ∙ ap (merged.answer_of out') e in record { answer = R.answer ∙ sym (ap (λ (x : Res (List ℕ)). x >>= λ l. read_lines document_limits (behind_first l)) z); holds = λ h. R.holds }

  refused_as : (k : ℕ) → merged.answer_of out' a ≡ refused k → (r : Result Unit ℕ) → r ≡ Err k → LoadsMerge s terms' runs' r
  refused_as k e r f = let z = asks ∙ e in rw f (record { answer = sym (ap (λ (x : Res (List ℕ)). x >>= λ l. read_lines document_limits (behind_first l)) z); holds = λ h. absurd (refused-pool h) })

  pub loads-refused : (k : ℕ) → a ≡ A.Refused k → LoadsMerge s terms' runs' (Err k)
  loads-refused k e = refused_as k (ap (merged.answer_of out') e) (Err k) refl

  pub loads-doubled : (c : ℕ) → a ≡ A.Doubled c → LoadsMerge s terms' runs' (Err 10)
  loads-doubled c e = refused_as 10 (ap (merged.answer_of out') e) (Err 10) refl

  pub listing-inside : (n : ℕ) → a ≡ A.Listing n → n ≤ length out'
  listing-inside n e = rw e at m.carries

-- ---- the line feed
pub feeds-as : (out out' : List ℕ) (a b : Answer) (r : ℕ) → a ≡ b → Feeds out out' b r → Feeds out out' a r
feeds-as out out' a b r e P = rw e P

pub short-as : (a : Answer) (n : ℕ) → a ≡ Text n → Short a → n ≤ 65536
short-as a n e h = rw e at h

-- ---- the answer
pub not-true : (b : Bool) → not b ≡ true → b ≡ false
not-true true e = sym e
not-true false e = refl

pub not-false : (b : Bool) → not b ≡ false → b ≡ true
not-false true e = refl
not-false false e = sym e

first-no : (a b : Bool) (x : Res (List ℕ)) → a ≡ false → (rule 2 a >>= λ _. rule 2 b >>= λ _. x) ≡ refused 2
first-no a b x e = rw e refl

second-no : (a b : Bool) (x : Res (List ℕ)) → a ≡ true → b ≡ false → (rule 2 a >>= λ _. rule 2 b >>= λ _. x) ≡ refused 2
second-no a b x e f = rw (e, f) refl

both_yes : (a b : Bool) (x : Res (List ℕ)) → a ≡ true → b ≡ true → (rule 2 a >>= λ _. rule 2 b >>= λ _. x) ≡ x
both_yes a b x e f = rw (e, f) refl

-- the card of what was read of the lines
card_from : List ℕ → Res Pool → Res (List ℕ)
card_from s x = x >>= λ p. write_card (table_of s) p (length p - 1) OUTPUT

refused-answer : (s out : List ℕ) (r : Answer) (k : ℕ) → card_asked s ≡ refused k → r ≡ Refused k → AnswersCard s out out r
unfolding output_after
refused-answer s out r k e f = rw f (record { answers = record { answer = sym e; output = sym (ap (output_after out) e); inside = tt }; short = tt })

pub not-tabled : (s out : List ℕ) (r : Answer) → tabled s ≡ false → r ≡ Refused 2 → AnswersCard s out out r
unfolding card_asked
not-tabled s out r e f = refused-answer s out r 2 (first-no (tabled s) (asked (behind s)) _ e) f

-- what a part of the output holds is what the output holds
home : (M : Res (List ℕ)) (k : ℕ) (out ys : List ℕ) (r : Answer) → k ≤ length out → length ys ≡ k → Answers M (take k out) ys r → Answers M out (ys ++ drop k out) r
unfolding output_after
home M k out ys (Text n) h l A =
    let i : n ≤ length ys = A.inside in
    let e : M ≡ ok (take n ys) = sym A.answer in
    let o : ys ≡ take n ys ++ drop (length (take n ys)) (take k out) = A.output ∙ ap (output_after (take k out)) e in
    let j : length (take n ys) ≤ length (take k out) = omega (arith, length-take-le n ys i, length-take-le k out h, i, l) in
    let seam : drop (length (take n ys)) (take k out) ++ drop k out ≡ drop (length (take n ys)) out = sym (drop-append-le (length (take n ys)) (take k out) (drop k out) j) ∙ ap (drop (length (take n ys))) (take-append-drop k out) in
    record {
      answer = ap ok (take-append-le n ys (drop k out) i) ∙ A.answer;
      output = ap (λ (y : List ℕ). y ++ drop k out) o ∙ append_assoc (take n ys) (drop (length (take n ys)) (take k out)) (drop k out) ∙ ap (λ (y : List ℕ). take n ys ++ y) seam ∙ sym (ap (output_after out) e);
      inside = omega (arith, length-append ys (drop k out), i);
    }
home M k out ys (Refused j) h l A =
    let e : M ≡ refused j = sym A.answer in
    let o : ys ≡ take k out = A.output ∙ ap (output_after (take k out)) e in
    record { answer = A.answer; output = ap (λ (y : List ℕ). y ++ drop k out) o ∙ take-append-drop k out ∙ sym (ap (output_after out) e); inside = tt }

home-short : (M : Res (List ℕ)) (out ys : List ℕ) (r : Answer) → length ys ≡ OUTPUT → Answers M out ys r → Short r
home-short M out ys (Text n) l A = rw l at A.inside
home-short M out ys (Refused j) l A = tt

-- the merge that it asks for
abbrev merge_asked : List ℕ → Res (List ℕ)
merge_asked q = merge_of true (take (be4 q 0 + 4) q) (be2 q (be4 q 0 + 4)) (be2 q (be4 q 0 + 4 + 2)) (be4 q (be4 q 0 + 4 + 4)) LISTING

lines-some : (x : Res (List ℕ)) (p : Pool) → (x >>= λ l. read_lines document_limits (behind_first l)) ≡ ok p → 0 < length p
lines-some (ok l) p e = (read-lined document_limits (behind_first l) p e).1
lines-some (refused k) p e = absurd (let z : ◌≡◌ {A = ℕ} 0 1 = cc in omega arith)

module _ (s : List ℕ) (e : ℕ) (is : e ≡ be4 s 0 + 4) (T : tabled s ≡ true) (part : List ℕ) (p : part ≡ drop e s) where
  part-is : part ≡ behind s
  part-is = p ∙ ap (λ (k : ℕ). drop k s) is

  framed-asked : framed part ≡ asked (behind s)
  framed-asked =
      let h : length part ≤ INPUT = rw p (omega (arith, length-drop e s, (tabled-says s T).short)) in
      let z : framed part ≡ asked part = rw (le-leb (length part) INPUT h) refl in
      z ∙ ap asked part-is

  pub not-asked : framed part ≡ false → (out : List ℕ) (r : Answer) → r ≡ Refused 2 → AnswersCard s out out r
  unfolding card_asked
  not-asked f out r g = refused-answer s out r 2 (second-no (tabled s) (asked (behind s)) _ T (sym framed-asked ∙ f)) g

  module _ (F : framed part ≡ true) (terms' runs' : List ℕ) (m : Result Unit ℕ) (A : LoadsMerge part terms' runs' m) where
    lines : merged_of (pool_of terms' runs') m ≡ lines_asked (behind s)
    lines = A.answer ∙ ap lines_asked part-is

    card : card_asked s ≡ card_from s (merged_of (pool_of terms' runs') m)
    unfolding card_asked card_from
    card = both_yes (tabled s) (asked (behind s)) _ T (sym framed-asked ∙ F) ∙ ap (card_from s) (sym lines)

    pub load-refused : (k : ℕ) → m ≡ Err k → (out : List ℕ) (r : Answer) → r ≡ Refused k → AnswersCard s out out r
    unfolding card_from
    load-refused k f out r g = refused-answer s out r k (card ∙ ap (λ (x : Result Unit ℕ). card_from s (merged_of (pool_of terms' runs') x)) f) g

    pub last-ready : m ≡ Ok tt → (marks : ℕ) → 32768 ≤ marks → Holds terms' runs' × (0 < count_in terms') × (count_in terms' ≤ marks)
    last-ready f marks h =
        let z : lines_asked part ≡ ok (pool_of terms' runs') = sym A.answer ∙ ap (merged_of (pool_of terms' runs')) f in
        let H = A.holds f in
        (H, omega (arith, lines-some (merge_asked part) (pool_of terms' runs') z, pool-length terms' runs'), omega (arith, H.few))

    pub card-written : m ≡ Ok tt → (out ys table : List ℕ) (r : Answer) → length out ≡ 65537 → table ≡ take (e - 4) (drop 4 s) → length ys ≡ length (take 65536 out)
        → Answers (write_card table (pool_of terms' runs') (count_in terms' - 1) (length (take 65536 out))) (take 65536 out) ys r → AnswersCard s out (ys ++ drop 65536 out) r
    unfolding card_from
    card-written f out ys table r w t g B =
        let h : 65536 ≤ length out = omega (arith, w) in
        let n : length (take 65536 out) ≡ 65536 = length-take-le 65536 out h in
        let l : length ys ≡ 65536 = g ∙ n in
        let u : e - 4 ≡ be4 s 0 = omega (arith, is) in
        let v : table ≡ table_of s = t ∙ ap (λ (k : ℕ). take k (drop 4 s)) u in
        let y : card_asked s ≡ write_card (table_of s) (pool_of terms' runs') (count_in terms' - 1) 65536 = card ∙ ap (λ (x : Result Unit ℕ). card_from s (merged_of (pool_of terms' runs') x)) f ∙ ap (λ (c : ℕ). write_card (table_of s) (pool_of terms' runs') (c - 1) 65536) (pool-length terms' runs') in
        let D : Answers (write_card (table_of s) (pool_of terms' runs') (count_in terms' - 1) 65536) (take 65536 out) ys r = rw (n, v) at B in
        let K : Answers (card_asked s) (take 65536 out) ys r = rw y D in
        record { answers = home (card_asked s) 65536 out ys r h l K; short = home-short (card_asked s) (take 65536 out) ys r l K }

pub at_least : (m n : ℕ) → m ≡ n → 32768 ≤ n → 32768 ≤ m
at_least m n e h = omega (arith, e, h)

-- ---- the program
by_lines_of : (a b : Bool) (x : Res (List ℕ)) (f : List ℕ → Res Pool) (g : Pool → Res (List ℕ)) (h : List ℕ → Res (List ℕ)) →
    (rule 2 a >>= λ _. rule 2 b >>= λ _. x >>= λ l. (f l >>= g) >>= h) ≡ ((rule 2 a >>= λ _. rule 2 b >>= λ _. (x >>= f) >>= g) >>= h)
by_lines_of false b x f g h = refl
by_lines_of true false x f g h = refl
by_lines_of true true (ok l) f g h = refl
by_lines_of true true (refused k) f g h = refl

fed : List ℕ → Res (List ℕ)
fed c = ok (c ++ (10 ∷ []))

by-lines : (s : List ℕ) → card_by_lines s ≡ (card_asked s >>= fed)
unfolding card_by_lines card_asked card_of_lines fed
by-lines s = by_lines_of (tabled s) (asked (behind s)) (merge_asked (behind s)) (λ l. read_lines document_limits (behind_first l)) (λ p. write_card (table_of s) p (length p - 1) OUTPUT) fed

pub responds : (s out out₁ out₂ : List ℕ) (a : Answer) (r : ℕ) → length out ≡ 65537 → AnswersCard s out out₁ a → Feeds out₁ out₂ a r → Responds s out out₂ r
unfolding card_written printed output_after fed
responds s out out₁ out₂ (Text n) r w A (x, y) =
    let B = A.answers in
    let l : List ℕ = take n out₁ in
    let e : card_by_lines s ≡ ok (take n out₁ ++ (10 ∷ [])) = by-lines s ∙ ap (λ (x : Res (List ℕ)). x >>= fed) (sym B.answer) in
    let q : card_written s ≡ take n out₁ ++ (10 ∷ []) = ap printed e in
    let j : length (take n out₁) ≡ n = length-take-le n out₁ B.inside in
    let o : out₁ ≡ take n out₁ ++ drop (length (take n out₁)) out = B.output ∙ ap (output_after out) (sym B.answer) in
    let z : length out₁ ≡ length (take n out₁) + length (drop (length (take n out₁)) out) = ap length o ∙ length-append (take n out₁) (drop (length (take n out₁)) out) in
    let i : n < length out₁ = omega (arith, z, j, length-drop (length (take n out₁)) out, w, A.short) in
    let d : drop (length (take n out₁) + 1) out₁ ≡ drop (length (take n out₁) + 1) out = ap (drop (length (take n out₁) + 1)) o ∙ drop-append-add (take n out₁) (drop (length (take n out₁)) out) 1 ∙ drop-drop 1 (length (take n out₁)) out in
    let k : length (take n out₁ ++ (10 ∷ [])) ≡ length (take n out₁) + 1 = length-append (take n out₁) (10 ∷ []) in
    let v : suc n ≡ length (take n out₁) + 1 = omega (arith, j) in
    let b : drop (suc n) out₁ ≡ drop (length (take n out₁ ++ (10 ∷ []))) out = ap (λ (h : ℕ). drop h out₁) v ∙ d ∙ ap (λ (h : ℕ). drop h out) (sym k) in
    rw q (record {
      long = omega (arith, x, j, k);
      bytes = y ∙ set_split out₁ n 10 i ∙ ap (λ (h : List ℕ). take n out₁ ++ (10 ∷ h)) b ∙ sym (append_assoc (take n out₁) (10 ∷ []) (drop (length (take n out₁ ++ (10 ∷ []))) out));
    })
responds s out out₁ out₂ (Refused k) r w A F =
    let B = A.answers in
    let e : card_by_lines s ≡ refused k = by-lines s ∙ ap (λ (x : Res (List ℕ)). x >>= fed) (sym B.answer) in
    let q : card_written s ≡ refusal_bytes k = ap printed e in
    let o : out₁ ≡ out = B.output ∙ ap (output_after out) (sym B.answer) in
    rw q (rw o at F)

cleared-kept-one : (x y z : List ℕ) → length y ≡ length x → z ≡ work_after 0 true y → z ≡ work_after 0 true x
cleared-kept-one x y z l h = h ∙ ap (λ (n : ℕ). replicate n 0) l

pub cleared-kept : {a b c d e f a₁ b₁ c₁ d₁ e₁ f₁ u v w x y z : List ℕ} → C.Cleared a₁ b₁ c₁ d₁ e₁ f₁ u v w x y z → length a₁ ≡ length a → length b₁ ≡ length b → length c₁ ≡ length c → length d₁ ≡ length d → length e₁ ≡ length e → length f₁ ≡ length f
    → merged.Cleared true a u b v c w d x e y f z
cleared-kept {a} {b} {c} {d} {e} {f} {a₁} {b₁} {c₁} {d₁} {e₁} {f₁} K p q r s t o = record {
  graph = cleared-kept-one a a₁ _ p K.graph;
  pairs = cleared-kept-one b b₁ _ q K.pairs;
  work = cleared-kept-one c c₁ _ r K.work;
  flow = cleared-kept-one d d₁ _ s K.flow;
  terms = cleared-kept-one e e₁ _ t K.terms;
  runs = cleared-kept-one f f₁ _ o K.runs;
}

-- ---- the buffers that the program lends: by their lengths
pub lent : (graph pairs work flow terms runs : List ℕ) → merging.fit_of 256 (length graph) (length pairs) (length work) (length flow) (length terms) (length runs) ≡ true → calls.fit_of 65536 (length work) (length graph) (length terms) (length runs) ≡ true → Lent graph pairs work flow terms runs
lent graph pairs work flow terms runs e f =
    let R = roomy 65536 (length work) (length graph) (length terms) (length runs) (ap not f) in
    record { fit = e; marks = R.marks; staged = record { staged = R.frames; rooms = record { few = omega arith; ends = omega arith; long = R.terms; roomy = R.runs } } }
