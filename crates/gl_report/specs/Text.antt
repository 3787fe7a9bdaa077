-- The text report: what is printed of cycles, and of findings.
use Rattle.std.specs.Prelude.{ℕ, ◌+◌, Bool, List, [], ◌∷◌, ◌++◌, length, slice_get, unwrap_or, if◌then◌else◌, codes, decimal}
use Rattle.std.specs.List.{filter_map, flat_map}
use Rattle.gl_std.specs.Names.{NameLists}
use Rattle.gl_edges.specs.declared.edge.Edge.{Edge}
use Rattle.gl_edges.specs.declared.edge.Sample.{Sample}
use Rattle.gl_findings.specs.Counts.{counts_of}
use Rattle.gl_findings.specs.declared.counts.ClassCounts.{ClassCounts}
use Rattle.gl_findings.specs.declared.listing.Listing.{Listing}
use Rattle.gl_findings.specs.declared.listing.Listing.TheVariants.{Cycles, Findings}

-- the name with this number, as its bytes
abbrev pub name_of : List (List ℕ) → ℕ → List ℕ
name_of names number = unwrap_or (slice_get names number) []

-- who holds what since where
abbrev pub held_text : NameLists → Edge × Sample → List ℕ
held_text names pair =
    codes "  " ++ name_of names.threads pair.0.thread
    ++ codes " holds " ++ name_of names.locks pair.0.held
    ++ codes " since " ++ name_of names.locs pair.1.held_loc

-- what it wants, and at which place
abbrev pub wanted_text : NameLists → Edge × Sample → List ℕ
wanted_text names pair =
    codes " wants " ++ name_of names.locks pair.0.wanted
    ++ codes " at " ++ name_of names.locs pair.1.wanted_loc ++ codes "\n"

-- one edge of a cycle
abbrev pub edge_line : NameLists → Edge × Sample → List ℕ
edge_line names pair = held_text names pair ++ wanted_text names pair

-- how many threads made the edges of a class, and how many locks they hold or want
abbrev pub counts_line : ClassCounts → List ℕ
counts_line counts =
    codes "    threads: " ++ decimal counts.threads ++ codes ", locks: " ++ decimal counts.locks
    ++ codes "\n"

-- one edge of what is listed: of a finding with the counts of its class
abbrev pub edge_text : Listing → NameLists → List (Edge × Sample) → Edge × Sample → List ℕ
edge_text Cycles names table pair = edge_line names pair
edge_text Findings names table pair = edge_line names pair ++ counts_line (counts_of table pair)

-- the word before the number of one that is listed, and before how many are
abbrev pub one_word : Listing → List ℕ
one_word Cycles = codes "cycle "
one_word Findings = codes "finding "

abbrev pub all_word : Listing → List ℕ
all_word Cycles = codes "cycles: "
all_word Findings = codes "findings: "

-- the line that begins a cycle
abbrev pub cycle_line : Listing → ℕ → ℕ → List ℕ
cycle_line listing number size =
    one_word listing ++ decimal number ++ codes ": " ++ decimal size ++ codes " edges\n"

-- a cycle with its edges
abbrev pub cycle_text : Listing → NameLists → List (Edge × Sample) → ℕ → List ℕ → List ℕ
cycle_text listing names table number cycle =
    cycle_line listing number (length cycle)
    ++ flat_map (edge_text listing names table) (filter_map (slice_get table) cycle)

-- cycles, of which the first has this number
abbrev pub cycles_text : Listing → NameLists → List (Edge × Sample) → ℕ → List (List ℕ) → List ℕ
cycles_text listing names table number [] = []
cycles_text listing names table number (cycle ∷ cycles) =
    cycle_text listing names table number cycle
    ++ cycles_text listing names table (number + 1) cycles

-- the last line: how many are listed, and whether there are more
abbrev pub last_line : Listing → ℕ → Bool → List ℕ
last_line listing count more =
    all_word listing ++ decimal count ++ (if more then codes " (more)" else []) ++ codes "\n"

-- the whole list
abbrev pub listing_text : Listing → NameLists → List (Edge × Sample) → List (List ℕ) → Bool → List ℕ
listing_text listing names table cycles more =
    cycles_text listing names table 1 cycles ++ last_line listing (length cycles) more

-- the report: its cycles
abbrev pub report_text : NameLists → List (Edge × Sample) → List (List ℕ) → Bool → List ℕ
report_text names table cycles more = listing_text Cycles names table cycles more

-- the findings, each with the cycle that shows it
abbrev pub findings_text : NameLists → List (Edge × Sample) → List (List ℕ) → Bool → List ℕ
findings_text names table shown more = listing_text Findings names table shown more
