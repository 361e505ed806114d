-- Tests of the words of a value, a control, a frame and an activation: whether they are in the one form that an image has.
use Rattle.std.specs.Prelude.{Bool, true, false, ◌&&◌, List, [], ◌∷◌, ℕ, zero, suc, ◌+◌, ◌*◌, eqb, ltb, leb, get_or, take, drop}
use Rattle.varset.specs.Lowest.{pick}
use Rattle.words.specs.Blocks.{all_zero}
use Rattle.spec_image.specs.Sizes.{slots_from, slot_room, variables_from, variable_room}

-- a value: nothing is two zeros, an int has any word, a bool has 0 or 1
unfoldable pub value_ok : ℕ → ℕ → Bool
value_ok type word = get_or (eqb word 0 ∷ true ∷ ltb word 2 ∷ []) type false

-- n values, two words each
abbrev pub values_ok : ℕ → List ℕ → Bool
values_ok zero l = true
values_ok (suc n) l = value_ok (get_or l 0 0) (get_or l 1 0) && values_ok n (drop 2 l)

-- n nodes, each with a zero after it
abbrev pub nodes_ok : ℕ → List ℕ → Bool
nodes_ok zero l = true
nodes_ok (suc n) l = eqb (get_or l 1 0) 0 && nodes_ok n (drop 2 l)

-- a control: forms 1 to 3 are values, 4 is a node, 5 a reference
unfoldable pub control_ok : ℕ → ℕ → Bool
control_ok form word = get_or (false ∷ eqb word 0 ∷ true ∷ ltb word 2 ∷ true ∷ true ∷ []) form false

-- y values, z nodes, and zeros: at most 7 operands in the words after a frame's first four
unfoldable pub operands_ok : ℕ → ℕ → List ℕ → Bool
operands_ok y z slots = leb (y + z) slot_room && (values_ok y slots && (nodes_ok z (drop (2 * y) slots) && all_zero (drop (2 * y + 2 * z) slots)))

-- a frame of 20 words, by its kind: 1 and 2 gather operands, 3 to 5 use one word, 6 uses two, 7 to 9 none; by frame
unfoldable pub frame_ok : List ℕ → Bool
frame_ok b =
    let kind = get_or b 0 0 in
    pick (ltb kind 3) (ltb 0 kind && operands_ok (get_or b 2 0) (get_or b 3 0) (drop slots_from b))
    (pick (ltb kind 6) (all_zero (drop 2 b))
    (pick (ltb kind 7) (all_zero (drop 3 b))
    (ltb kind 10 && all_zero (drop 1 b))))

-- an activation of 136 words: at most 64 variables, five zeros before them, and zeros after them
unfoldable pub activation_ok : List ℕ → Bool
activation_ok b = leb (get_or b 2 0) variable_room && (all_zero (take 5 (drop 3 b)) && (values_ok (get_or b 2 0) (drop variables_from b) && all_zero (drop (2 * get_or b 2 0) (drop variables_from b))))
