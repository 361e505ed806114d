-- The numbers of the layout: sizes, places and room, apart from the limits of the machine.
use Rattle.std.specs.Prelude.{ℕ}

-- the room of an image: how many words the head has, an activation and a frame, and how many of these there is room for
abbrev pub head_size : ℕ
head_size = 128

abbrev pub activation_size : ℕ
activation_size = 136

abbrev pub caller_room : ℕ
caller_room = 32

abbrev pub frame_size : ℕ
frame_size = 20

abbrev pub frame_room : ℕ
frame_room = 512

-- the words after them, for the environment of the run
abbrev pub env_size : ℕ
env_size = 1664

-- where the activations begin, where the frames and the environment do, where the entry function stands in it, and the size of the whole
abbrev pub activations_at : ℕ
activations_at = 128

abbrev pub frames_at : ℕ
frames_at = 4480

abbrev pub env_at : ℕ
env_at = 14720

abbrev pub entry_at : ℕ
entry_at = 14721

abbrev pub size : ℕ
size = 16384

-- what has room in a frame and in an activation: the words before its slots, or its variables, of two words each
abbrev pub slots_from : ℕ
slots_from = 4

abbrev pub slot_room : ℕ
slot_room = 7

abbrev pub variables_from : ℕ
variables_from = 8

abbrev pub variable_room : ℕ
variable_room = 64
