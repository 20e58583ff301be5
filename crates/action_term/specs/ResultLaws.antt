-- The list of an action's children is what `intern_action_result` of the definitions interns.
use Rattle.std.specs.Prelude.{◌≡◌, refl, Bool, true, false, List, [], map, ℕ, ◌^◌, ◌≤◌, ◌<◌, length, drop, Option}
use Rattle.std.proofs.Common.{sym, ap, ◌∙◌, arith, take-append-drop}
use Rattle.spec.specs.Bytes.{Limits, pick, sum}
use Rattle.spec.specs.Pool.{Pool, Node, op_node, join_runs, sort_runs, intern}
use Rattle.pools.specs.Pool.{RunsBelow, NodeValid, op-valid}
use Rattle.pools.specs.PoolSort.{sort-perm, perm-below}
use Rattle.terms.specs.Buffers.{part, unpack, pool_of, node_of}
use Rattle.interning.specs.Interning.{entered_of, pool_after, Interning}
use Rattle.joining.specs.Joining.{join_numbers, over, Begins, joined_in}
use Rattle.action_term.specs.Sorting.{ordered_in}
use Rattle.interning.specs.GrowLaws.{grows-intern}
use Rattle.action_term.specs.Results.{ActionResult}
use Rattle.terms.specs.PartLaws.{part_length, part-take, part-front}
use Rattle.joining.specs.JoinLaws.{joined-runs, join-sum, begins-fits, op-node}
use Rattle.action_term.specs.SortLaws.{sorted-runs, sort-length, sort-sum}

pub over-same : (list : List ℕ) (n : ℕ) → n ≤ length list → list ≡ over (part list 0 n) list
over-same list n h = rw (part_length list 0 n, part-take list n h) (sym (take-append-drop n list))

module _ (p : Pool) (list : List ℕ) (n : ℕ) where
  ordered-length : (t : Bool) → length (ordered_in t p list n) ≡ n
  ordered-length true = sort-length p (part list 0 n) ∙ part_length list 0 n
  ordered-length false = part_length list 0 n

  ordered-sum : (t : Bool) → sum (ordered_in t p list n) ≡ sum (part list 0 n)
  ordered-sum true = sort-sum p (part list 0 n)
  ordered-sum false = refl

  ordered-runs : (t : Bool) → map unpack (ordered_in t p list n) ≡ pick t (sort_runs p (map unpack (part list 0 n))) (map unpack (part list 0 n))
  ordered-runs true = sorted-runs p (part list 0 n)
  ordered-runs false = refl

  ordered-below : (N : ℕ) (t : Bool) → RunsBelow N (map unpack (part list 0 n)) → RunsBelow N (pick t (sort_runs p (map unpack (part list 0 n))) (map unpack (part list 0 n)))
  ordered-below N true b = perm-below (sort-perm p (map unpack (part list 0 n))) b
  ordered-below N false b = b

module _ (p : Pool) (list : List ℕ) (n : ℕ) (t : Bool) (list₁ : List ℕ) (E : list₁ ≡ over (ordered_in t p list n) list) where
  front : part list₁ 0 n ≡ ordered_in t p list n
  front = rw E (part-front (ordered_in t p list n) (drop (length (ordered_in t p list n)) list) n (sym (ordered-length p list n t)))

  pub action-join : sum (part list 0 n) < 2 ^ 64 → sum (part list₁ 0 n) < 2 ^ 64
  action-join h = omega (arith, ap sum front, ordered-sum p list n t)

  module _ (list₂ : List ℕ) (m : ℕ) (J : Begins (joined_in list₁ n) list₁ list₂ m) where
    joined : part list₂ 0 m ≡ joined_in list₁ n
    joined = rw J.numbers (part-front (joined_in list₁ n) (drop (length (joined_in list₁ n)) list₁) m J.many)

    pub action-light : sum (part list 0 n) < 2 ^ 64 → sum (part list₂ 0 m) < 2 ^ 64
    action-light h = omega (arith, ap sum joined, join-sum list₁ n, action-join h)

    pub action-node : (o : ℕ) → o < 64 → node_of o 0 (part list₂ 0 m) ≡ op_node o (pick t (sort_runs p (map unpack (part list 0 n))) (map unpack (part list 0 n)))
    action-node o h = op-node o (part list₂ 0 m) _ h (ap (map unpack) joined ∙ joined-runs list₁ n ∙ ap (λ (l : List ℕ). join_runs (map unpack l)) front ∙ ap join_runs (ordered-runs p list n t))

    pub action-valid : (N o : ℕ) → o < 64 → RunsBelow N (map unpack (part list 0 n)) → NodeValid N (node_of o 0 (part list₂ 0 m))
    action-valid N o h b = rw (action-node o h) (op-valid N o _ (ordered-below p list n N t b))

    many_is : m ≡ length (join_numbers [] (ordered_in t p list n))
    many_is = J.many ∙ ap (λ (l : List ℕ). length (join_numbers [] l)) front

    list-is : list₂ ≡ over (join_numbers [] (ordered_in t p list n)) (over (ordered_in t p list n) list)
    list-is = J.numbers ∙ ap (λ (l : List ℕ). over (join_numbers [] l) list₁) front ∙ ap (λ (l : List ℕ). over (join_numbers [] (ordered_in t p list n)) l) E

module _ (lim : Limits) (terms runs list : List ℕ) (n o : ℕ) (t : Bool) (list₁ : List ℕ) (E : list₁ ≡ over (ordered_in t (pool_of terms runs) list n) list) (list₂ : List ℕ) (m : ℕ) (J : Begins (joined_in list₁ n) list₁ list₂ m) (h : o < 64) (terms' runs' : List ℕ) (r : Option ℕ) where
  pub action-result : Interning lim terms runs list₂ m o 0 terms' runs' r → ActionResult lim terms runs list n o t terms' runs' list₂ r
  action-result I =
      let e = action-node (pool_of terms runs) list n t list₁ E list₂ m J o h in record {
        answer = I.answer ∙ ap (λ (x : Node). entered_of (intern lim (pool_of terms runs) x)) e;
        pool = I.pool ∙ ap (λ (x : Node). pool_after (pool_of terms runs) (intern lim (pool_of terms runs) x)) e;
        holds = I.holds;
        grows = rw (← e) (grows-intern lim (begins-fits J) I);
        list_is = list-is (pool_of terms runs) list n t list₁ E list₂ m J;
        buffers = rw (← many_is (pool_of terms runs) list n t list₁ E list₂ m J) I;
      }
