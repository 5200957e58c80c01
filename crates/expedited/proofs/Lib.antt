mod TakeRows
