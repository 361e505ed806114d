-- The tests of a block by the ways through the code.
use mathlib.Core.Path.{◌≡◌}
use mathlib.Core.Bool.{false, ◌&&◌}
use mathlib.Core.List.{List}
use Prim.Native.Nat.{ℕ, ◌+◌, ◌*◌, ◌-◌, ◌<◌, ◌≤◌}
use native.Mathlib.Omega.{arith}
use lib.ListN.{length, get_or, take, drop}
use lib.Seq.{drop-drop}
use borrow.Author.Tests.{le-leb, lt-leb, lt-ltb, le-ltb}
use Rattle.words.specs.Blocks.{all_zero}
use Rattle.words.proofs.Tests.{tail}
use Rattle.fit_image.specs.BlockTests.{values_ok, nodes_ok, operands_ok, frame_ok, activation_ok}

module _ (y z : ℕ) (s : List ℕ) where
  pub operands_many : 7 < y + z → false ≡ operands_ok y z s
  unfolding operands_ok
  operands_many h = rw (lt-leb (y + z) 7 h)

  pub operands_few : y + z ≤ 7
      → (values_ok y s && (nodes_ok z (take (length s - 2 * y) (drop (2 * y) s)) && all_zero (take (length s - (2 * y + 2 * z)) (drop (2 * y + 2 * z) s))))
      ≡ operands_ok y z s
  unfolding operands_ok
  operands_few h = rw (le-leb (y + z) 7 h, tail s (2 * y), tail s (2 * y + 2 * z))

module _ (b : List ℕ) where
  pub kind_none : get_or b 0 0 < 1 → false ≡ frame_ok b
  unfolding frame_ok
  kind_none h = rw (lt-ltb (get_or b 0 0) 3 (omega arith), le-ltb 0 (get_or b 0 0) (omega arith))

  pub kind_gather : 1 ≤ get_or b 0 0 → get_or b 0 0 < 3 → operands_ok (get_or b 2 0) (get_or b 3 0) (take (length b - 4) (drop 4 b)) ≡ frame_ok b
  unfolding frame_ok
  kind_gather h k = rw (lt-ltb (get_or b 0 0) 3 k, lt-ltb 0 (get_or b 0 0) (omega arith), tail b 4)

  pub kind_one : 3 ≤ get_or b 0 0 → get_or b 0 0 < 6 → all_zero (take (length b - 2) (drop 2 b)) ≡ frame_ok b
  unfolding frame_ok
  kind_one h k = rw (le-ltb (get_or b 0 0) 3 h, lt-ltb (get_or b 0 0) 6 k, tail b 2)

  pub kind_two : get_or b 0 0 ≡ 6 → all_zero (take (length b - 3) (drop 3 b)) ≡ frame_ok b
  unfolding frame_ok
  kind_two e = rw (e, tail b 3)

  pub kind_bare : 7 ≤ get_or b 0 0 → get_or b 0 0 < 10 → all_zero (take (length b - 1) (drop 1 b)) ≡ frame_ok b
  unfolding frame_ok
  kind_bare h k =
      rw (le-ltb (get_or b 0 0) 3 (omega arith), le-ltb (get_or b 0 0) 6 (omega arith), le-ltb (get_or b 0 0) 7 h, lt-ltb (get_or b 0 0) 10 k, tail b 1)

  pub kind_past : 10 ≤ get_or b 0 0 → false ≡ frame_ok b
  unfolding frame_ok
  kind_past h = rw (le-ltb (get_or b 0 0) 3 (omega arith), le-ltb (get_or b 0 0) 6 (omega arith), le-ltb (get_or b 0 0) 7 (omega arith), le-ltb (get_or b 0 0) 10 h)

  pub variables_many : 64 < get_or b 2 0 → false ≡ activation_ok b
  unfolding activation_ok
  variables_many h = rw (lt-leb (get_or b 2 0) 64 h)

  pub variables_few : get_or b 2 0 ≤ 64
      → (all_zero (take 5 (drop 3 b)) && (values_ok (get_or b 2 0) (take (length b - 8) (drop 8 b)) && all_zero (take (length b - (8 + 2 * get_or b 2 0)) (drop (8 + 2 * get_or b 2 0) b))))
      ≡ activation_ok b
  unfolding activation_ok
  variables_few h = rw (le-leb (get_or b 2 0) 64 h, drop-drop (2 * get_or b 2 0) 8 b, tail b 8, tail b (8 + 2 * get_or b 2 0))
