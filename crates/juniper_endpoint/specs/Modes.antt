-- The words of the command line.
use Rattle.std.specs.Prelude.{ℕ, if◌then◌else◌, List, [], ◌∷◌, Option, Some, None, codes}
use Rattle.std.specs.Str.{bytes_eq}
use Rattle.juniper_endpoint.specs.declared.mode.Mode.{Mode}
use Rattle.juniper_endpoint.specs.declared.mode.Mode.TheVariants.{Http, Lines, Sdl}

-- the mode of a word
abbrev pub named_mode : List ℕ → Option Mode
named_mode w = if bytes_eq w (codes "--lines") then Some Lines else (if bytes_eq w (codes "--sdl") then Some Sdl else None)

-- no word is HTTP, and more than one is none
abbrev pub mode_of : List (List ℕ) → Option Mode
mode_of [] = Some Http
mode_of (w ∷ []) = named_mode w
mode_of (w ∷ v ∷ ws) = None
