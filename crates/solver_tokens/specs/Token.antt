-- What stands ahead of a place in the text, and the numbers and tokens read there. They stand in contracts.
use Rattle.std.specs.Prelude.{List, Bool, ◌&&◌, ◌||◌, cond, ℕ, ◌+◌, length, get_or, drop, leb, eqb, ℤ, pos, neg_ℤ, Option, None, Some}
use Rattle.lists.specs.Loop.{all}
use Rattle.decimals.specs.Decimals.{digit?, read_on}
use Rattle.solver_text.specs.Text.{ahead, size?, token?, negative?, unsigned}
use Rattle.solver_tokens.specs.declared.Number.{Number}
use Rattle.solver_tokens.specs.declared.Token.{Token}

-- the byte at a place; behind the text's end stands the 10 that the last line may lack
abbrev pub byte : List ℕ → ℕ → ℕ
byte text at = get_or text at 10

-- the rest of the line, and of the token
unfoldable pub line : List ℕ → ℕ → List ℕ
line text at = ahead 10 (drop at text)

unfoldable pub token : List ℕ → ℕ → List ℕ
token text at = ahead 32 (line text at)

-- a token or a line ends here
abbrev pub end? : ℕ → Bool
end? d = eqb d 32 || eqb d 10

-- the number that the digits t say after those that said x, where it is at most N, and where they end; they begin at `at`
unfoldable pub number_of : ℕ → ℕ → List ℕ → ℕ → Option Number
number_of N x t at = cond (all digit? t && leb (read_on x t) N) (Some (record { size = read_on x t; end = at + length t })) None

-- the same of digits that do not begin with 0
unfoldable pub size_of : ℕ → List ℕ → ℕ → Option Number
size_of N t at = cond (size? N t) (Some (record { size = read_on 0 t; end = at + length t })) None

-- a literal by its sign and its size
abbrev pub literal : Bool → ℕ → ℤ
literal negative size = cond negative (neg_ℤ (pos size)) (pos size)

-- the token t, which begins at `at`
unfoldable pub token_of : ℕ → List ℕ → ℕ → Option Token
token_of N t at = cond (token? N t) (Some (record { negative = negative? t; size = read_on 0 (unsigned t); end = at + length t })) None
