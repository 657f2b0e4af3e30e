-- What a book is. "01" is the scope.
pub mod Told
