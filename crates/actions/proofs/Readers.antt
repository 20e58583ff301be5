-- What the image's readers give of the action at a state.
use mathlib.Core.Path.{◌≡◌, sym, ap, ◌∙◌}
use mathlib.Core.List.{List}
use Prim.Native.Nat.{ℕ, ◌+◌, ◌-◌, ◌≤◌, ◌<◌}
use native.Mathlib.Omega.{arith}
use lib.ListN.{length, get_or}
use Rattle.spec.specs.Image.{Tables, tables_of, the_member}
use Rattle.laws.specs.Valid.{Valid}
use Rattle.image.specs.Loaded.{Loaded, the_child, members-many}
use Rattle.image.specs.declared.Image.{Image}
use Rattle.alignment.specs.Members.{child_classes, many-classes, op-number, child-number, class-number, class-few}
use Rattle.actions.specs.Place.{Stands, action_at}
use Rattle.actions.specs.declared.State.{State}
use Rattle.actions.proofs.Joins.{Joined, members-join}

module _ (s : List ℕ) (im : Image) (l : Loaded s im) (v : Valid (tables_of s)) where
  abbrev t : Tables
  t = tables_of s

  module _ (w : State) (st : Stands t w) where
    pub left-member : w.left < im.members
    left-member = omega (arith, st.left, members-many s im l)

    pub right-member : w.right < im.members
    right-member = omega (arith, st.right, members-many s im l)

    stand : Joined (the_member t w.left).op w.past (child_classes t w.left) (child_classes t w.right) (action_at t w)
    stand = members-join t v w.left w.right st.left st.right w.past st.more

    pub action-op : {o : ℕ} → o ≡ (the_member t w.left).op → (o ≡ (action_at t w).op) × (o < im.operations)
    action-op e = (e ∙ sym stand.op, op-number s im l v w.left left-member e)

    pairs-left : length (action_at t w).pairs ≡ (the_member t w.left).count
    pairs-left = stand.many ∙ many-classes t v w.left st.left

    pairs-right : length (action_at t w).pairs ≡ (the_member t w.right).count
    pairs-right = stand.many ∙ stand.same ∙ many-classes t v w.right st.right

    pub action-count : {n : ℕ} → n ≡ (the_member t w.left).count → (n ≡ length (action_at t w).pairs) × (n ≤ 64)
    action-count e = (e ∙ sym pairs-left, omega (arith, e, v.spans.few_own_children w.left st.left))

    module _ (k : ℕ) (b : k < length (action_at t w).pairs) where
      module _ {f : ℕ} (e : f ≡ (the_member t w.left).first) where
        pub left-child : f + k < im.children
        left-child = child-number s im l v w.left left-member k e (omega (arith, pairs-left))

        pub left-joined : {x : ℕ} → x ≡ (the_child t (f + k)).0 → (x ≡ (get_or (action_at t w).pairs k (0, 0)).0) × (x < im.classes)
        left-joined {x} q =
            let n : k < (the_member t w.left).count = omega (arith, pairs-left) in
            let a : x ≡ get_or (child_classes t w.left) k 0 = class-number s im l v w.left left-member k e n q in
            (a ∙ sym (stand.left k (omega (arith, stand.many))), class-few s im l v w.left left-member k n a)

      module _ {f : ℕ} (e : f ≡ (the_member t w.right).first) where
        pub straight-child : f + k < im.children
        straight-child = child-number s im l v w.right right-member k e (omega (arith, pairs-right))

        pub straight-joined : {x : ℕ} → w.past ≡ 0 → x ≡ (the_child t (f + k)).0 → (x ≡ (get_or (action_at t w).pairs k (0, 0)).1) × (x < im.classes)
        straight-joined {x} z q =
            let n : k < (the_member t w.right).count = omega (arith, pairs-right) in
            let a : x ≡ get_or (child_classes t w.right) k 0 = class-number s im l v w.right right-member k e n q in
            (a ∙ sym (stand.straight z k (omega (arith, stand.many))), class-few s im l v w.right right-member k n a)

        module _ (z : w.past ≡ 0 → ⊥) where
          pub crossed-two : k < 2
          crossed-two = omega (arith, (stand.crossed z).0, stand.many)

          pub crossed-child : f + 1 - k < im.children
          crossed-child = omega (arith, child-number s im l v w.right right-member (1 - k) e (omega (arith, pairs-right, (stand.crossed z).0, stand.many)), crossed-two)

          pub crossed-joined : {x : ℕ} → x ≡ (the_child t (f + 1 - k)).0 → (x ≡ (get_or (action_at t w).pairs k (0, 0)).1) × (x < im.classes)
          crossed-joined {x} q =
              let n : 1 - k < (the_member t w.right).count = omega (arith, pairs-right, (stand.crossed z).0, stand.many) in
              let i : f + 1 - k ≡ f + (1 - k) = omega (arith, crossed-two) in
              let a : x ≡ get_or (child_classes t w.right) (1 - k) 0 = class-number s im l v w.right right-member (1 - k) e n (q ∙ ap (λ (j : ℕ). (the_child t j).0) i) in
              (a ∙ sym ((stand.crossed z).1 k crossed-two), class-few s im l v w.right right-member (1 - k) n a)
