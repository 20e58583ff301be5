-- The card of a merge by way of its listing, as program `card` makes it, is the card of the merge's term.
use Rattle.std.specs.Prelude.{◌≡◌, ◌≢◌, Bool, true, false, List, [], ◌∷◌, ◌++◌, ℕ, zero, suc, ◌+◌, ◌<◌, ltb, leb, length, take, drop}
use Rattle.std.proofs.Math.Path.{refl}
use Rattle.std.proofs.Common.{ap, ◌∙◌, arith, ltb-true}
use Rattle.spec.specs.Bytes.{both, be2, be4, Res, ok, refused, ◌>>=◌, rule}
use Rattle.spec.specs.Image.{Tables, image_of}
use Rattle.spec.specs.Graph.{skipped_in}
use Rattle.spec.specs.Run.{Outcome, limits_for, document_limits, run_of}
use Rattle.spec.specs.Listing.{listing_of}
use Rattle.spec.specs.Merge.{OUTPUT, merge_for, merge_of}
use Rattle.spec.specs.declared.Caller.{Caller}
use Rattle.spec.specs.declared.Caller.TheVariants.{Desk}
use Rattle.formula.specs.Lexer.{write_card}
use Rattle.formula.specs.Lines.{card_of_lines}
use Rattle.formula.specs.Programs.{card_for, tabled, table_of, behind, asked, card_to, LISTING, behind_first, card_by_lines}
use Rattle.own_lines.specs.Tidy.{Bytes}
use Rattle.own_lines.specs.OwnLines.{accepted, own-card}
use Rattle.own_lines.specs.Split.{behind-first}

module _ (who : Caller) (image : List ℕ) (bytes : Bytes image) (left right budget : ℕ) (signs : List ℕ) (room : ℕ) where
  -- the card of the lines behind a listing's first line
  abbrev carded : List ℕ → Res (List ℕ)
  carded l = card_of_lines document_limits signs (behind_first l) room

  abbrev listing : Tables → Outcome → List ℕ
  listing t o = listing_of (skipped_in (limits_for who) t (left, right) budget) o

  abbrev listed : Tables → Outcome → Res (List ℕ)
  listed t o = rule 14 (leb (length (listing t o)) LISTING) >>= λ _. ok (listing t o)

  abbrev written : Outcome → Res (List ℕ)
  written o = write_card signs o.pool o.root room

  -- Where a listing has room, the card of its lines is that of its term.
  after_run : (t : Tables) → image_of image ≡ ok t → left < length t.classes → right < length t.classes → (x : Res Outcome) → run_of (limits_for who) t (left, right) budget ≡ x → (x >>= listed t) ≢ refused 14 → ((x >>= listed t) >>= carded) ≡ (x >>= written)
  after_run t e hl hr (refused n) r f = refl
  after_run t e hl hr (ok o) r f = fits (leb (length (listing t o)) LISTING) f
    where
      fits : (b : Bool) → (rule 14 b >>= λ _. ok (listing t o)) ≢ refused 14 → ((rule 14 b >>= λ _. ok (listing t o)) >>= carded) ≡ written o
      fits true f =
          let (v, narrow) = accepted image t bytes e in
          ap (λ (z : List ℕ). card_of_lines document_limits signs z room) (behind-first (skipped_in (limits_for who) t (left, right) budget) o) ∙ own-card who t v narrow (left, right) (hl, hr) budget o r document_limits (omega arith) (omega arith) signs room
      fits false f = absurd (f refl)

  after-asking : (t : Tables) → image_of image ≡ ok t → (a b : Bool) → ltb left (length t.classes) ≡ a → ltb right (length t.classes) ≡ b
      → (rule 11 (both a b) >>= λ _. run_of (limits_for who) t (left, right) budget >>= listed t) ≢ refused 14
      → ((rule 11 (both a b) >>= λ _. run_of (limits_for who) t (left, right) budget >>= listed t) >>= carded) ≡ ((rule 11 (both a b) >>= λ _. run_of (limits_for who) t (left, right) budget) >>= written)
  after-asking t e true true ha hb f = after_run t e (ltb-true left (length t.classes) ha) (ltb-true right (length t.classes) hb) (run_of (limits_for who) t (left, right) budget) refl f
  after-asking t e true false ha hb f = refl
  after-asking t e false b ha hb f = refl

  abbrev asks : Tables → Res Unit
  asks t = rule 11 (both (ltb left (length t.classes)) (ltb right (length t.classes)))

  after-image : (x : Res Tables) → image_of image ≡ x → (x >>= λ t. asks t >>= λ _. run_of (limits_for who) t (left, right) budget >>= listed t) ≢ refused 14 → ((x >>= λ t. asks t >>= λ _. run_of (limits_for who) t (left, right) budget >>= listed t) >>= carded) ≡ ((x >>= λ t. asks t >>= λ _. run_of (limits_for who) t (left, right) budget) >>= written)
  after-image (refused n) e f = refl
  after-image (ok t) e f = after-asking t e (ltb left (length t.classes)) (ltb right (length t.classes)) refl refl f

  -- The merge, then the card of its lines: the card of the merge, and the same refusals, wherever the listing has room.
  pub card-by-listing : merge_for who true image left right budget LISTING ≢ refused 14 → (merge_for who true image left right budget LISTING >>= λ l. card_of_lines document_limits signs (behind_first l) room) ≡ card_for who signs image left right budget room
  unfolding merge_for card_for
  card-by-listing f = after-image (image_of image) refl f

-- ---- the program
bytes_drop : (n : ℕ) (s : List ℕ) → Bytes s → Bytes (drop n s)
bytes_drop zero s b = b
bytes_drop (suc n) [] b = b
bytes_drop (suc n) (c ∷ s) b = bytes_drop n s (λ i. b (suc i))

bytes-cons : (c : ℕ) (s : List ℕ) → c < 256 → Bytes s → Bytes (c ∷ s)
bytes-cons c s h b zero = h
bytes-cons c s h b (suc i) = b i

bytes_take : (n : ℕ) (s : List ℕ) → Bytes s → Bytes (take n s)
bytes_take zero s b = λ i. omega arith
bytes_take (suc n) [] b = b
bytes_take (suc n) (c ∷ s) b = bytes-cons c (take n s) (b 0) (bytes_take n s (λ i. b (suc i)))

then-bind : {A B C : Type 0} (m : Res A) (f : A → Res B) (g : B → Res C) → (m >>= λ a. f a >>= g) ≡ ((m >>= f) >>= g)
then-bind (ok a) f g = refl
then-bind (refused n) f g = refl

-- the merge that program `card`'s input asks for
abbrev pub listing_asked : List ℕ → Res (List ℕ)
listing_asked s = do
  let q = behind s
  let n = be4 q 0 + 4
  merge_of true (take n q) (be2 q n) (be2 q (n + 2)) (be4 q (n + 4)) LISTING

-- "prints the card and a line feed, or `refused N`": by way of the listing the same, wherever it has room.
pub by-lines : (s : List ℕ) → Bytes s → listing_asked s ≢ refused 14 → card_by_lines s ≡ card_to s
unfolding card_by_lines card_to merge_of
by-lines s b fits = first (tabled s)
  where
    q : List ℕ
    q = behind s

    n : ℕ
    n = be4 q 0 + 4

    fed : List ℕ → Res (List ℕ)
    fed c = ok (c ++ (10 ∷ []))

    main : (merge_of true (take n q) (be2 q n) (be2 q (n + 2)) (be4 q (n + 4)) LISTING >>= λ l. card_of_lines document_limits (table_of s) (behind_first l) OUTPUT >>= fed) ≡ (card_for Desk (table_of s) (take n q) (be2 q n) (be2 q (n + 2)) (be4 q (n + 4)) OUTPUT >>= fed)
    main =
        then-bind (merge_of true (take n q) (be2 q n) (be2 q (n + 2)) (be4 q (n + 4)) LISTING) (λ l. card_of_lines document_limits (table_of s) (behind_first l) OUTPUT) fed
        ∙ ap (λ (x : Res (List ℕ)). x >>= fed) (card-by-listing Desk (take n q) (bytes_take n q (bytes_drop (be4 s 0 + 4) s b)) (be2 q n) (be2 q (n + 2)) (be4 q (n + 4)) (table_of s) OUTPUT fits)

    second : (x : Bool) → (rule 2 x >>= λ _. merge_of true (take n q) (be2 q n) (be2 q (n + 2)) (be4 q (n + 4)) LISTING >>= λ l. card_of_lines document_limits (table_of s) (behind_first l) OUTPUT >>= fed)
        ≡ (rule 2 x >>= λ _. card_for Desk (table_of s) (take n q) (be2 q n) (be2 q (n + 2)) (be4 q (n + 4)) OUTPUT >>= fed)
    second true = main
    second false = refl

    first : (x : Bool) → (rule 2 x >>= λ _. rule 2 (asked q) >>= λ _. merge_of true (take n q) (be2 q n) (be2 q (n + 2)) (be4 q (n + 4)) LISTING >>= λ l. card_of_lines document_limits (table_of s) (behind_first l) OUTPUT >>= fed)
        ≡ (rule 2 x >>= λ _. rule 2 (asked q) >>= λ _. card_for Desk (table_of s) (take n q) (be2 q n) (be2 q (n + 2)) (be4 q (n + 4)) OUTPUT >>= fed)
    first true = second (asked q)
    first false = refl
